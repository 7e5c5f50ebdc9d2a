use Rattle.std.proofs.Common.{rules, ◌≡◌, ℕ, Bool, true, false, cond, List, [], ◌∷◌, ◌++◌, length, Ok, Err, Result, sym, refl, ap, ap₂, ◌∙◌}
use Rattle.std.specs.Prelude.{nat_le, IfErr}
use Rattle.slice_vec.specs.declared.vec.SliceVec.{SliceVec}
use Rattle.slice_vec.specs.Filling.{items_of, capacity_of, is_full, with_item}
use Rattle.field.specs.declared.field.Field.{Ghosts as Kind}
use Rattle.field.specs.declared.hearing.Hearing.TheVariants.{Silence}
use Rattle.slot.specs.declared.ending.Stopped.{Stopped}
use Rattle.slot.specs.declared.kinds.LoneSlot.{LoneSlot}
use Rattle.slot.specs.declared.kinds.SilentSlot.{SilentSlot}
use Rattle.slot.specs.declared.lists.Lists.{Lists}
use Rattle.slot.specs.declared.listed.ListedSlot.{ListedSlot}
use Rattle.slot.specs.Counts.{stop_number}
use Rattle.slot.specs.Calls.{setting, Position, at_slot, at_lone, at_unread, position_read, Continues, IsAtSlot}
use Rattle.slot.specs.Rules.{Setting, SweepState, in_lone, in_reading, next_action, action_in, after_action, stops, lists}
use Rattle.slot.proofs.Moves.{reaches_by, led_on, stopped}
use Rattle.slot.proofs.kinds.LoneSlot.read.Goals as goal

-- The next action at a lone slot, by whether the list is full.
lone_action : (set : Setting) (p : SweepState) (serial : List ℕ) (b : Bool) → p.phase ≡ in_lone serial → nat_le set.serial_room (length p.serials) ≡ b
    → next_action set p ≡ cond b (stops 9) (lists serial)
lone_action set p serial b e w = ap (action_in set p) e ∙ ap (λ (x : Bool). cond x (stops 9) (lists serial)) w

pub returns-then-is_err-clause-rule : goal.returns-then-is_err-clause-rule
returns-then-is_err-clause-rule g c coins p s =
    let set : Setting = setting coins c.args.self.progress.budget c.args.lists.now in
    let full : is_full c.args.lists.now.serials ≡ true = search rules in
    let kept : items_of c.args.lists.now.serials ≡ items_of c.push.new.self =
    sym (c.push.ensures.items ∙ ap (λ (b : Bool). with_item b (items_of c.args.lists.now.serials) c.args.self.serial) full) in
    stopped g.F.Field set p (record { slots = c.args.lists.now.slots; serials = c.push.new.self }) c.args.field.now c.args.field.now 9 c.stopped.result
    (lone_action set p c.args.self.serial true s.phase (ap (λ (rows : List (List ℕ)). nat_le set.serial_room (length rows)) s.serials ∙ full)) refl
    (ap (λ (x : Stopped). stop_number x.stop) c.stopped.ensures) (s.commands ∙ ap (λ (x : Stopped). x.counts.commands) (sym c.stopped.ensures)) s.slots
    (s.serials ∙ kept) s.tags

-- A serial number is listed, and what reading then comes to.
then_read : {F : Type 0} (kind : Kind F) (coins : List ℕ) (self : LoneSlot) (before after : Lists) (to : Position) (a b : F) → is_full before.serials ≡ false
    → after.slots ≡ before.slots → items_of after.serials ≡ with_item (is_full before.serials) (items_of before.serials) self.serial
    → capacity_of after.serials ≡ capacity_of before.serials → Continues kind coins (at_slot (in_reading self.serial) self.progress) to a b after after
    → Continues kind coins (at_lone self) to a b before after
then_read kind coins self before after to a b free slots rows room read p s =
    let set : Setting = setting coins self.progress.budget before in
    let listed : items_of before.serials ++ self.serial ∷ [] ≡ items_of after.serials =
    sym (rows ∙ ap (λ (x : Bool). with_item x (items_of before.serials) self.serial) free) in
    let q : SweepState = after_action (lists self.serial) Silence p in
    let stands : IsAtSlot (in_reading self.serial) self.progress after (kind.tags a) q =
    record {
      phase = refl;
      waiting = s.waiting;
      next = s.next;
      commands = s.commands;
      slots = s.slots ∙ ap (λ (l : SliceVec ListedSlot). items_of l) (sym slots);
      serials = ap (λ (x : List (List ℕ)). x ++ self.serial ∷ []) s.serials ∙ listed;
      tags = s.tags;
    } in
    let same : setting coins self.progress.budget after ≡ set =
    ap₂ (λ (m n : ℕ). record { coins = coins; budget = self.progress.budget; slot_room = m; serial_room = n }) (ap (λ (l : SliceVec ListedSlot). capacity_of l) slots) room in
    let first = reaches_by kind set p (lists self.serial) Silence a a
    (lone_action set p self.serial false s.phase (ap (λ (x : List (List ℕ)). nat_le set.serial_room (length x)) s.serials ∙ free)) refl (λ f. refl) refl in
    led_on kind set _ p q to a a b after first same (read q stands)

pub returns-clause-rule : goal.returns-clause-rule
returns-clause-rule g c coins =
    let free : is_full c.args.lists.now.serials ≡ false = search rules in
    then_read g.F.Field coins c.args.self c.args.lists.now (record { slots = c.args.lists.now.slots; serials = c.push.new.self }) (position_read c.read.result)
    c.args.field.now c.read.new.field free refl c.push.ensures.items c.push.ensures.behind.room (c.read.ensures.rule coins _)

-- Of a stop, what follows.
if_stopped : (r : Result SilentSlot Stopped) (P Q : Stopped → Type 0) → ((s : Stopped) → P s → Q s) → IfErr r P → IfErr r Q
if_stopped (Ok x) P Q f e = e
if_stopped (Err s) P Q f e = f s e

pub returns-clause-unread : goal.returns-clause-unread
returns-clause-unread g c coins =
    let after : Lists = record { slots = c.args.lists.now.slots; serials = c.push.new.self } in
    if_stopped c.read.result _ _
    (λ s led free. then_read g.F.Field coins c.args.self c.args.lists.now after (at_unread c.args.self s.counts) c.args.field.now c.read.new.field free refl
    c.push.ensures.items c.push.ensures.behind.room led)
    (c.read.ensures.unread coins after)
