-- Where every lone reply is heard as lone, each lone slot is read once. Assumes nothing.
use Rattle.std.proofs.Common.{◌≡◌, ℕ, zero, suc, ◌+◌, ◌/◌, Bool, true, false, eqb, ltb, cond, [], ◌∷◌, List, get_or, take, length, Option, Some, None, sym, refl, ap, ◌∙◌, ap₂, subst, ◌⊎◌, inl, inr, arith}
use Rattle.std.proofs.lemmas.Bool.{cond_both}
use Rattle.std.specs.Str.{bytes_eq}
use Rattle.crc.specs.Check.{sealed}
use Rattle.protocol.specs.declared.command.Command.{Command}
use Rattle.protocol.specs.declared.command.Command.TheVariants.{Read}
use Rattle.protocol.specs.Commands.{code_of, layout, length_of, command_with_code}
use Rattle.frame.specs.Openings.{Opening, refused, opened, opening, opening_by_command, is_sealed, parameters_of}
use Rattle.frame.specs.Parts.{Part, bytes_of, placed}
use Rattle.protocol.specs.declared.command.Parameter.TheVariants.{Serial, Address}
use Rattle.record.specs.declared.Tag.{Tag}
use Rattle.record.specs.Records.{bytes_from}
use Rattle.reply.specs.Replies.{sealed_reply}
use Rattle.tag.specs.Orders.{damaged, unknown, byte_of}
use Rattle.tag.specs.Steps.{prepared, dealt_with, obeyed, has_serial, answered, stepped, replied}
use Rattle.field.specs.declared.hearing.Hearing.{Hearing}
use Rattle.field.specs.declared.hearing.Hearing.TheVariants.{Silence, Lone, Clash}
use Rattle.field.specs.Airs.{Air, mixed, air_of_one, plain_hearing}
use Rattle.field.specs.Sends.{first_coin, stepped_all, on_air}
use Rattle.slot.specs.Commands.{frame_of, target, read}
use Rattle.slot.specs.Rules.{Setting, Phase, fresh, in_silence, in_lone, in_clash, in_reading, SweepState, Action, beginning, ended, opens, reads, opened_by, read_by, air_of, after_action, advanced, next_plain_hearing, replayed}
use Rattle.sweep.specs.Tallies.{heard_as, ReadsOnce}
use Rattle.sweep.proofs.Actions.{by_action, holds_replayed}
use Rattle.sweep.proofs.Balances.{one_more}

-- A frame to which a tag replies the same when it comes again.
abbrev IsSteady : Opening → Type 0
IsSteady frame = (a b c : Bool) (t : Tag) → replied frame a (stepped frame b t) ≡ replied frame c t

no_reply : (d a b c : Bool) (t : Tag)
    → sealed_reply (answered (cond d damaged unknown) a (prepared (obeyed (cond d damaged unknown) b t.permission (prepared t)))) ≡ sealed_reply (answered (cond d damaged unknown) c (prepared t))
no_reply true a b c t = refl
no_reply false a b c t = refl

refused-is_steady : (n : ℕ) → IsSteady (refused n)
refused-is_steady n a b c t = no_reply (ltb n 3) a b c t

-- What a tag replies to READ depends on its memory alone, which a READ leaves.
read-is_steady : (code : ℕ) (parts : List Part) → IsSteady (opened code Read parts)
read-is_steady code parts a b c t =
    let left : (stepped (opened code Read parts) b t).memory ≡ t.memory =
    cond_both (has_serial t (bytes_of Serial parts)) (record (dealt_with (prepared t)) { permission = Some (byte_of Address parts) }) (prepared t) (λ (u : Tag). u.memory ≡ t.memory)
    (λ e. refl) (λ e. refl) in
    ap (λ (m : List ℕ). sealed_reply (cond (bytes_eq (take 8 m) (bytes_of Serial parts)) (Some (bytes_from m (byte_of Address parts) 8)) None)) left

named_read : (bytes : List ℕ) → command_with_code (get_or (sealed (code_of Read ∷ bytes)) 0 0) ≡ Some Read
unfolding command_with_code sealed
named_read bytes = refl

steady : (serial : List ℕ) → IsSteady (opening (read serial))
unfolding read opening
steady serial =
    let frame : List ℕ = frame_of Read (target serial) in
    let parts : List Part = placed 1 (layout Read) (parameters_of frame) in
    cond_both (ltb (length frame) 3) (refused 1) (cond (is_sealed frame) (opening_by_command (command_with_code (get_or frame 0 0)) frame) (refused 2)) IsSteady
    (λ e. refused-is_steady 1)
    (λ e. cond_both (is_sealed frame) (opening_by_command (command_with_code (get_or frame 0 0)) frame) (refused 2) IsSteady
    (λ f. subst (λ (c : Option Command). IsSteady (opening_by_command c frame)) (sym (named_read (target serial)))
    (cond_both (eqb (length frame) (length_of Read)) (opened (code_of Read) Read parts) (refused 4) IsSteady
    (λ g. read-is_steady (code_of Read) parts) (λ g. refused-is_steady 4)))
    (λ f. refused-is_steady 2))

steady_air : (frame : Opening) → IsSteady frame → (r q s : ℕ) (tags : List Tag) → on_air frame r (stepped_all frame q tags) ≡ on_air frame s tags
unfolding on_air stepped_all
steady_air frame h r q s [] = refl
steady_air frame h r q s (t ∷ ts) =
    ap₂ (λ (x : Option (List ℕ)) (y : Air). mixed (air_of_one x) y) (h (first_coin r) (first_coin q) (first_coin s) t) (steady_air frame h (r / 2) (q / 2) (s / 2) ts)

-- No READ of a serial number will ever be heard as lone.
abbrev IsStuck : List ℕ → SweepState → Type 0
IsStuck serial p = plain_hearing (on_air (opening (read serial)) 0 p.tags) ≡ Lone → ⊥

abbrev Once : Phase → SweepState → Type 0
Once fresh p = p.reads ≡ heard_as Lone p.slots
Once in_silence p = p.reads ≡ heard_as Lone p.slots
Once (in_lone serial) p = p.reads + 1 ≡ heard_as Lone p.slots
Once in_clash p = p.reads ≡ heard_as Lone p.slots
Once (in_reading serial) p = (p.reads + 1 ≡ heard_as Lone p.slots) ⊎ IsStuck serial p
Once (ended zero) p = p.reads ≡ heard_as Lone p.slots
Once (ended (suc n)) p = Unit {0}

once_open : (h : Hearing) (c : Command) (frame : List ℕ) (row g next : ℕ) (p : SweepState) (air : Air) → p.reads ≡ heard_as Lone p.slots
    → Once (opened_by h air) (after_action (opens c frame row g next) h p)
once_open Silence c frame row g next p air e = omega (arith, one_more Lone p.slots (record { command = c; hearing = Silence; waiting = g }))
once_open Lone c frame row g next p air e = omega (arith, one_more Lone p.slots (record { command = c; hearing = Lone; waiting = g }))
once_open Clash c frame row g next p air e = omega (arith, one_more Lone p.slots (record { command = c; hearing = Clash; waiting = g }))

-- A READ that is not heard as lone never will be.
stays_stuck : (serial : List ℕ) (p : SweepState) → IsStuck serial p → IsStuck serial (record p { tags = stepped_all (opening (read serial)) 0 p.tags })
stays_stuck serial p stuck e = stuck (sym (ap plain_hearing (steady_air (opening (read serial)) (steady serial) 0 0 0 p.tags)) ∙ e)

once_read : (h : Hearing) (serial : List ℕ) (p : SweepState) → plain_hearing (on_air (opening (read serial)) 0 p.tags) ≡ h → (p.reads + 1 ≡ heard_as Lone p.slots) ⊎ IsStuck serial p
    → Once (read_by h serial) (after_action (reads serial) h p)
once_read Silence serial p heard or_stuck = inr (stays_stuck serial p (λ e. let k : Silence ≡ Lone = sym heard ∙ e in cc))
once_read Clash serial p heard or_stuck = inr (stays_stuck serial p (λ e. let k : Clash ≡ Lone = sym heard ∙ e in cc))
once_read Lone serial p heard (inl e) = e
once_read Lone serial p heard (inr stuck) = absurd (stuck heard)

abbrev StaysOnce : SweepState → Phase → Action → Type 0
StaysOnce p phase action =
    Once phase p → Once p.phase p → Once (after_action action (plain_hearing (air_of action p.tags)) p).phase (after_action action (plain_hearing (air_of action p.tags)) p)

once_on : (set : Setting) (p : SweepState) → Once p.phase p → Once (advanced set (next_plain_hearing set p) p).phase (advanced set (next_plain_hearing set p) p)
unfolding advanced next_plain_hearing
once_on set p once =
    by_action set p (StaysOnce p)
    (record {
      spent = λ phase over e now. tt;
      full = λ phase over e now. tt;
      crowded = λ e now. tt;
      selecting = λ a b e now. once_open _ _ _ _ _ _ p _ e;
      scrolling = λ w a b e now. once_open _ _ _ _ _ _ p _ e;
      querying = λ a b e now. once_open _ _ _ _ _ _ p _ e;
      listing = λ serial a e now. inl e;
      reading = λ serial a e now. once_read _ serial p refl e;
      closing = λ w a e now. e;
      resting = λ n e now. now;
    }) p.phase once once

pub reads_once : ReadsOnce
reads_once set n tags e =
    let p : SweepState = replayed set n (beginning tags) in
    subst (λ (phase : Phase). Once phase p) e (holds_replayed set (λ m q. Once q.phase q) (λ m q. once_on set q) n 0 (beginning tags) refl)
