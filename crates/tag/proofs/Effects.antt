-- What a frame makes of a tag's flag, permission and mark. Assumes nothing.
use Rattle.std.proofs.Common.{◌≡◌, ℕ, ◌-◌, Bool, true, false, cond, List, Some, None, refl, ap, ◌∙◌, ltb}
use Rattle.std.proofs.lemmas.Bool.{eqb-true}
use Rattle.protocol.specs.declared.command.Command.TheVariants.{Select, UnselectNe, UnselectIdFlag, UnselectNoidFlag, Query, Scroll, Repeat, Reset, Read, Verify, Lock, Qlock, ReadFlexible, Write}
use Rattle.protocol.specs.Commands.{code_of}
use Rattle.protocol.specs.declared.command.Parameter.TheVariants.{Serial, Address}
use Rattle.frame.specs.Openings.{Opening, refused, opened}
use Rattle.frame.specs.Parts.{Part, bytes_of}
use Rattle.record.specs.declared.State.{State}
use Rattle.record.specs.declared.State.TheVariants.{Ready, Singulation, Inventoried}
use Rattle.record.specs.declared.WriteMark.{WriteMark}
use Rattle.record.specs.declared.WriteMark.TheVariants.{Clear, Fading, Fresh}
use Rattle.record.specs.declared.Tag.{Tag}
use Rattle.record.specs.Records.{mark_number, fallen, is_write_ok}
use Rattle.tag.specs.FlagLaws.{is_dealt_with, FlagLaw}
use Rattle.tag.specs.Frames.{is_a, address_in}
use Rattle.tag.specs.MarkLaws.{is_tried, is_done, MarkLaw}
use Rattle.tag.specs.Orders.{damaged, unknown, byte_of}
use Rattle.tag.specs.PermissionLaws.{permits, PermissionLaw}
use Rattle.tag.specs.Steps.{prepared, selected, obeyed, stepped, has_serial, is_writable, is_lockable}
use Rattle.tag.proofs.Branches.{either, singulated}

-- The three at once, for a record that a frame may leave.
record Effects (frame : Opening) (before after : Tag) : Type 0 where
  flag : after.identified ≡ cond (is_dealt_with frame before) true (cond (is_a Reset frame) false before.identified)
  permission : after.permission ≡ cond (permits frame before) (Some (address_in frame)) None
  mark : mark_number after.mark ≡ cond (is_tried frame before) (cond (is_done frame before) 2 0) (mark_number before.mark - 1)

one_less : (m : WriteMark) → mark_number (fallen m) ≡ mark_number m - 1
one_less Clear = refl
one_less Fading = refl
one_less Fresh = refl

-- A record of which the frame touches none of the three.
record Idle (before after : Tag) : Type 0 where
  flag : after.identified ≡ before.identified
  permission : after.permission ≡ None
  mark : after.mark ≡ fallen before.mark

idle : (t u : Tag) → u.identified ≡ t.identified → u.permission ≡ None → u.mark ≡ fallen t.mark → Idle t u
idle t u e f g = record { flag = e; permission = f; mark = g }

only_met : (t : Tag) → Idle t (prepared t)
only_met t = idle t (prepared t) refl refl refl

only_ready : (t : Tag) → Idle t (record (prepared t) { state = Ready })
only_ready t = idle t (record (prepared t) { state = Ready }) refl refl refl

only_joined : (t : Tag) → Idle t (selected (prepared t))
only_joined t = idle t (selected (prepared t)) refl refl refl

-- Of a frame that is none of those which touch them.
from_idle : (frame : Opening) (t u : Tag) → is_dealt_with frame t ≡ false → is_a Reset frame ≡ false → permits frame t ≡ false → is_tried frame t ≡ false
    → Idle t u → Effects frame t u
from_idle frame t u d r p w i =
    record {
      flag = rw (d, r) i.flag;
      permission = rw p i.permission;
      mark = rw w (ap mark_number i.mark ∙ one_less t.mark);
    }

may_leave : (t : Tag) (leaves : Bool) → Idle t (cond leaves (record (prepared t) { state = Ready }) (selected (prepared t)))
may_leave t leaves = either (Idle t) leaves (record (prepared t) { state = Ready }) (selected (prepared t)) (only_ready t) (only_joined t)

not_opened : (coin : Bool) (t : Tag) (b : Bool) → Idle t (obeyed (cond b damaged unknown) coin t.permission (prepared t))
not_opened coin t true = only_ready t
not_opened coin t false = only_met t

-- The orders that go by a serial number, each for its own tag and for any other.
read_effects : (code : ℕ) (parts : List Part) (coin : Bool) (t : Tag) (meant : Bool) → has_serial t (bytes_of Serial parts) ≡ meant
    → Effects (opened code Read parts) t (stepped (opened code Read parts) coin t)
read_effects code parts coin t true e = record { flag = rw e refl; permission = rw e refl; mark = rw e (one_less t.mark) }
read_effects code parts coin t false e = record { flag = rw e refl; permission = rw e refl; mark = rw e (one_less t.mark) }

read_flexible_effects : (code : ℕ) (parts : List Part) (coin : Bool) (t : Tag) (meant : Bool) → has_serial t (bytes_of Serial parts) ≡ meant
    → Effects (opened code ReadFlexible parts) t (stepped (opened code ReadFlexible parts) coin t)
read_flexible_effects code parts coin t true e = record { flag = rw e refl; permission = rw e refl; mark = rw e (one_less t.mark) }
read_flexible_effects code parts coin t false e = record { flag = rw e refl; permission = rw e refl; mark = rw e (one_less t.mark) }

qlock_effects : (code : ℕ) (parts : List Part) (coin : Bool) (t : Tag) (meant : Bool) → has_serial t (bytes_of Serial parts) ≡ meant
    → Effects (opened code Qlock parts) t (stepped (opened code Qlock parts) coin t)
qlock_effects code parts coin t true e = record { flag = rw e refl; permission = rw e refl; mark = rw e (one_less t.mark) }
qlock_effects code parts coin t false e = record { flag = rw e refl; permission = rw e refl; mark = rw e (one_less t.mark) }

verify_effects : (code : ℕ) (parts : List Part) (coin : Bool) (t : Tag) (meant ok : Bool) → has_serial t (bytes_of Serial parts) ≡ meant
    → is_write_ok (fallen t.mark) ≡ ok → Effects (opened code Verify parts) t (stepped (opened code Verify parts) coin t)
verify_effects code parts coin t true true e k = record { flag = rw (e, k) refl; permission = rw (e, k) refl; mark = rw (e, k) (one_less t.mark) }
verify_effects code parts coin t true false e k = record { flag = rw (e, k) refl; permission = rw (e, k) refl; mark = rw (e, k) (one_less t.mark) }
verify_effects code parts coin t false ok e k = record { flag = rw e refl; permission = rw e refl; mark = rw e (one_less t.mark) }

write_effects : (code : ℕ) (parts : List Part) (coin : Bool) (t : Tag) (meant writable : Bool) → has_serial t (bytes_of Serial parts) ≡ meant
    → is_writable t (byte_of Address parts) ≡ writable → Effects (opened code Write parts) t (stepped (opened code Write parts) coin t)
write_effects code parts coin t true true e w = record { flag = rw (e, w) refl; permission = rw (e, w) refl; mark = rw (e, w) refl }
write_effects code parts coin t true false e w = record { flag = rw (e, w) refl; permission = rw (e, w) refl; mark = rw (e, w) refl }
write_effects code parts coin t false writable e w = record { flag = rw e refl; permission = rw e refl; mark = rw e (one_less t.mark) }

lock_effects : (code : ℕ) (parts : List Part) (coin : Bool) (t : Tag) (meant lockable : Bool) (s : State) → has_serial t (bytes_of Serial parts) ≡ meant
    → is_lockable t.permission (byte_of Address parts) ≡ lockable → t.state ≡ s → Effects (opened code Lock parts) t (stepped (opened code Lock parts) coin t)
lock_effects code parts coin t true true Inventoried e l s = record { flag = rw (e, l, s) refl; permission = rw (e, l, s) refl; mark = rw (e, l, s) refl }
lock_effects code parts coin t true false Inventoried e l s = record { flag = rw (e, l, s) refl; permission = rw (e, l, s) refl; mark = rw (e, l, s) refl }
lock_effects code parts coin t true lockable Ready e l s = record { flag = rw (e, s) refl; permission = rw (e, s) refl; mark = rw (e, s) (one_less t.mark) }
lock_effects code parts coin t true lockable Singulation e l s = record { flag = rw (e, s) refl; permission = rw (e, s) refl; mark = rw (e, s) (one_less t.mark) }
lock_effects code parts coin t false lockable state e l s = record { flag = rw e refl; permission = rw e refl; mark = rw e (one_less t.mark) }

effects : (o : Opening) (coin : Bool) (t : Tag) → Effects o t (stepped o coin t)
effects (refused n) coin t = from_idle (refused n) t _ refl refl refl refl (not_opened coin t (ltb n 3))
effects (opened code Select parts) coin t = from_idle (opened code Select parts) t _ refl refl refl refl (either (Idle t) _ _ _ (only_joined t) (only_met t))
effects (opened code UnselectNe parts) coin t = from_idle (opened code UnselectNe parts) t _ refl refl refl refl (singulated (Idle t) t.state _ _ (may_leave t _) (only_met t))
effects (opened code UnselectIdFlag parts) coin t = from_idle (opened code UnselectIdFlag parts) t _ refl refl refl refl (singulated (Idle t) t.state _ _ (may_leave t _) (only_met t))
effects (opened code UnselectNoidFlag parts) coin t = from_idle (opened code UnselectNoidFlag parts) t _ refl refl refl refl (singulated (Idle t) t.state _ _ (may_leave t _) (only_met t))
effects (opened code Query parts) coin t = from_idle (opened code Query parts) t _ refl refl refl refl (singulated (Idle t) t.state _ _ (idle t _ refl refl refl) (only_met t))
effects (opened code Scroll parts) coin t = from_idle (opened code Scroll parts) t _ refl refl refl refl (singulated (Idle t) t.state _ _ (idle t _ refl refl refl) (only_met t))
effects (opened code Repeat parts) coin t = from_idle (opened code Repeat parts) t _ refl refl refl refl (only_met t)
effects (opened code Reset parts) coin t = record { flag = refl; permission = refl; mark = one_less t.mark }
effects (opened code Read parts) coin t = read_effects code parts coin t (has_serial t (bytes_of Serial parts)) refl
effects (opened code ReadFlexible parts) coin t = read_flexible_effects code parts coin t (has_serial t (bytes_of Serial parts)) refl
effects (opened code Qlock parts) coin t = qlock_effects code parts coin t (has_serial t (bytes_of Serial parts)) refl
effects (opened code Verify parts) coin t = verify_effects code parts coin t (has_serial t (bytes_of Serial parts)) (is_write_ok (fallen t.mark)) refl refl
effects (opened code Write parts) coin t = write_effects code parts coin t (has_serial t (bytes_of Serial parts)) (is_writable t (byte_of Address parts)) refl refl
effects (opened code Lock parts) coin t =
    lock_effects code parts coin t (has_serial t (bytes_of Serial parts)) (is_lockable t.permission (byte_of Address parts)) t.state refl refl refl

flag_of_refused : (frame : Opening) (coin : Bool) (t : Tag) (n : ℕ) → frame ≡ refused n → (stepped frame coin t).identified ≡ t.identified
flag_of_refused frame coin t n e = rw e (effects (refused n) coin t).flag

cleared_by : (deals resets before after : Bool) → after ≡ cond deals true (cond resets false before) → before ≡ true → after ≡ false → resets ≡ true
cleared_by deals true before after e b a = refl
cleared_by true false before after e b a = cc
cleared_by false false before after e b a = cc

-- The three laws.
pub flagged : (frame : Opening) (coin : Bool) (t : Tag) → FlagLaw frame t (stepped frame coin t)
flagged frame coin t =
    let flag = (effects frame coin t).flag in
    record {
      flag = flag;
      refusals = λ n e. flag_of_refused frame coin t n e;
      cleared = λ b a. cleared_by (is_dealt_with frame t) (is_a Reset frame) t.identified _ flag b a;
    }

-- A frame of one code has no other.
verify_permits_nothing : (frame : Opening) (t : Tag) → is_a Verify frame ≡ true → permits frame t ≡ false
verify_permits_nothing (refused n) t e = refl
verify_permits_nothing (opened code c parts) t e =
    let code : code_of c ≡ code_of Verify = eqb-true (code_of c) (code_of Verify) e in
    rw code refl

after_verify : (frame : Opening) (coin : Bool) (t : Tag) → is_a Verify frame ≡ true → (stepped frame coin t).permission ≡ None
after_verify frame coin t e =
    (effects frame coin t).permission ∙ ap (λ (b : Bool). cond b (Some (address_in frame)) None) (verify_permits_nothing frame t e)

pub permitted : (frame : Opening) (coin : Bool) (t : Tag) → PermissionLaw frame t (stepped frame coin t)
permitted frame coin t = record { permission = (effects frame coin t).permission; verify = after_verify frame coin t }

pub remarked : (frame : Opening) (coin : Bool) (t : Tag) → MarkLaw frame t (stepped frame coin t)
remarked frame coin t = record { mark = (effects frame coin t).mark }
