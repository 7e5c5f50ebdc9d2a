-- From state to state of a sweep: actions one behind another, and what opening a slot comes to. Assumes nothing.
use Rattle.std.proofs.Common.{◌≡◌, ◌⊎◌, inl, inr, ℕ, zero, suc, ◌+◌, ◌-◌, eqb, Bool, true, false, cond, not, ◌||◌, List, [], ◌∷◌, ◌++◌, length, Ok, Err, Result, sym, refl, ap, ap₂, ◌∙◌, subst, arith}
use Rattle.std.proofs.lemmas.Bool.{true≢false}
use Rattle.std.proofs.lemmas.List.{length-append}
use Rattle.std.specs.Prelude.{nat_le}
use Rattle.protocol.specs.declared.command.Command.{Command}
use Rattle.protocol.specs.declared.command.Command.TheVariants.{Scroll}
use Rattle.frame.specs.Openings.{opening}
use Rattle.slice_vec.specs.declared.vec.SliceVec.{SliceVec}
use Rattle.slice_vec.specs.Filling.{items_of, capacity_of, is_full}
use Rattle.field.specs.declared.field.Field.{Ghosts as Kind}
use Rattle.field.specs.declared.hearing.Hearing.{Hearing}
use Rattle.field.specs.declared.hearing.Hearing.TheVariants.{Silence, Lone, Clash}
use Rattle.field.specs.Airs.{Air, MayHear, plain_hearing}
use Rattle.field.specs.Promises.{AfterSend}
use Rattle.field.specs.Sends.{stepped_all, on_air}
use Rattle.slot.specs.declared.counts.Counts.{Counts}
use Rattle.slot.specs.declared.listed.ListedSlot.{ListedSlot}
use Rattle.slot.specs.declared.ending.Stopped.{Stopped}
use Rattle.slot.specs.declared.kinds.Progress.{Progress}
use Rattle.slot.specs.declared.kinds.Slot.{Slot}
use Rattle.slot.specs.declared.lists.Lists.{Lists}
use Rattle.slot.specs.Commands.{scroll, read}
use Rattle.slot.specs.Counts.{with_command, stop_number, with_slot}
use Rattle.slot.specs.Slots.{progress_with, heard_in, Opened, MayOpen}
use Rattle.slot.specs.Rules.{Setting, SweepState, in_reading, read_by, in_silence, action_in, budget_checked, ended, opened_by, Action, stops, opens, lists, reads, closes, rests, room_checked, next_action, air_of, after_action, advanced, MayHearNext, next_plain_hearing, run_by, MayHearAll, replayed}
use Rattle.slot.specs.Traces.{AfterAction, FieldFollows, Reaches}
use Rattle.slot.specs.Calls.{setting, at_slot, over, position_opened, IsAtSlot, ReachesPosition, Position}

module _ (set : Setting) where
  heard_append : (hs ks : List Hearing) (p : SweepState) → MayHearAll set hs p → MayHearAll set ks (run_by set hs p) → MayHearAll set (hs ++ ks) p
  unfolding MayHearAll run_by
  heard_append [] ks p a b = b
  heard_append (h ∷ hs) ks p a b = (a.0, heard_append hs ks (advanced set h p) a.1 b)

  run_append : (hs ks : List Hearing) (p : SweepState) → run_by set (hs ++ ks) p ≡ run_by set ks (run_by set hs p)
  unfolding run_by
  run_append [] ks p = refl
  run_append (h ∷ hs) ks p = run_append hs ks (advanced set h p)

  pub replayed_add : (m n : ℕ) (p : SweepState) → replayed set (m + n) p ≡ replayed set n (replayed set m p)
  unfolding replayed
  replayed_add zero n p = ap (λ (k : ℕ). replayed set k p) (let z : 0 + n ≡ n = omega arith in z)
  replayed_add (suc m) n p =
      ap (λ (k : ℕ). replayed set k p) (let z : suc m + n ≡ suc (m + n) = omega arith in z) ∙ replayed_add m n (advanced set (next_plain_hearing set p) p)

-- No action changes whether a field hears every lone reply as lone.
action_faithful : {F : Type 0} (kind : Kind F) (d : Action) (h : Hearing) (before after : F) → AfterAction kind d h before after
    → kind.faithful after ≡ kind.faithful before
action_faithful kind (stops n) h before after a = ap kind.faithful a
action_faithful kind (opens c frame row g next) h before after a = a.as_faithful
action_faithful kind (lists serial) h before after a = ap kind.faithful a
action_faithful kind (reads serial) h before after a = a.as_faithful
action_faithful kind closes h before after a = a.as_faithful
action_faithful kind rests h before after a = ap kind.faithful a

module _ {F : Type 0} (kind : Kind F) (set : Setting) where
  goes_append : (hs ks : List Hearing) (p : SweepState) (a b c : F) → FieldFollows kind set hs p a b → FieldFollows kind set ks (run_by set hs p) b c
      → FieldFollows kind set (hs ++ ks) p a c
  unfolding FieldFollows run_by
  goes_append [] ks p a b c first rest = subst (λ (x : F). FieldFollows kind set ks p x c) first rest
  goes_append (h ∷ hs) ks p a b c first rest = (first.0, first.1, goes_append hs ks (advanced set h p) first.0 b c first.2 rest)

  pub goes_faithful : (hs : List Hearing) (p : SweepState) (a b : F) → FieldFollows kind set hs p a b → kind.faithful b ≡ kind.faithful a
  unfolding FieldFollows
  goes_faithful [] p a b goes = ap kind.faithful goes
  goes_faithful (h ∷ hs) p a b goes =
      goes_faithful hs (advanced set h p) goes.0 b goes.2 ∙ action_faithful kind (next_action set p) h a goes.0 goes.1

  pub reaches_self : (a : F) (p : SweepState) → Reaches kind set a a p p
  unfolding MayHearAll run_by replayed FieldFollows
  reaches_self a p = record { hearings = []; heard = tt; there = refl; plain = λ e. refl; field = refl }

  pub reaches_more : (a b c : F) (p q r : SweepState) → Reaches kind set a b p q → Reaches kind set b c q r → Reaches kind set a c p r
  reaches_more a b c p q r first rest =
      record {
        hearings = first.hearings ++ rest.hearings;
        heard = heard_append set first.hearings rest.hearings p first.heard (subst (MayHearAll set rest.hearings) first.there rest.heard);
        there = rest.there ∙ ap (run_by set rest.hearings) first.there ∙ sym (run_append set first.hearings rest.hearings p);
        plain = λ e. rest.plain (goes_faithful first.hearings p a b first.field ∙ e) ∙ ap (replayed set (length rest.hearings)) (first.plain e)
            ∙ sym (replayed_add set (length first.hearings) (length rest.hearings) p)
            ∙ ap (λ (n : ℕ). replayed set n p) (sym (length-append first.hearings rest.hearings));
        field = goes_append first.hearings rest.hearings p a b c first.field
            (subst (λ (x : SweepState). FieldFollows kind set rest.hearings x b c) first.there rest.field);
      }

  -- One action.
  pub reaches_by : (p : SweepState) (d : Action) (h : Hearing) (a b : F) → next_action set p ≡ d → MayHear (air_of d p.tags) h
      → (kind.faithful a ≡ true → h ≡ plain_hearing (air_of d p.tags)) → AfterAction kind d h a b → Reaches kind set a b p (after_action d h p)
  unfolding MayHearAll run_by replayed advanced MayHearNext next_plain_hearing FieldFollows
  reaches_by p d h a b e may only after =
      record {
        hearings = h ∷ [];
        heard = (subst (λ (x : Action). MayHear (air_of x p.tags) h) (sym e) may, tt);
        there = ap (λ (x : Action). after_action x h p) (sym e);
        plain = λ f. ap (λ (k : Hearing). after_action d k p) (only f) ∙ ap (λ (x : Action). after_action x (plain_hearing (air_of x p.tags)) p) (sym e);
        field = (b, subst (λ (x : Action). AfterAction kind x h a b) (sym e) after, refl);
      }

  -- One that sends a frame.
  pub reaches_sent : (p : SweepState) (d : Action) (frame : List ℕ) (row : ℕ) (h : Hearing) (a b : F) → next_action set p ≡ d → p.tags ≡ kind.tags a
      → air_of d p.tags ≡ on_air (opening frame) row p.tags → (AfterSend kind frame row h a b → AfterAction kind d h a b)
      → AfterSend kind frame row h a b → Reaches kind set a b p (after_action d h p)
  reaches_sent p d frame row h a b e tags air action sent =
      let same : air_of d p.tags ≡ on_air (opening frame) row (kind.tags a) = air ∙ ap (on_air (opening frame) row) tags in
      reaches_by p d h a b e (subst (λ (x : Air). MayHear x h) (sym same) sent.may_be) (λ f. sent.plain f ∙ ap plain_hearing (sym same)) (action sent)

  -- A stop, where nothing is sent.
  pub reaches_stop : (p : SweepState) (n : ℕ) (a b : F) → next_action set p ≡ stops n → b ≡ a → Reaches kind set a b p (after_action (stops n) Silence p)
  reaches_stop p n a b e same = reaches_by p (stops n) Silence a b e refl (λ f. refl) same

-- Whatever is heard, the slot's command is counted.
pub counted_commands : (h : Hearing) (c : Counts) → (with_slot h c).commands ≡ c.commands + 1
counted_commands Silence c = refl
counted_commands Lone c = refl
counted_commands Clash c = refl

neither : (a b : Bool) → true ≡ not (a || b) → (a ≡ false) × (b ≡ false)
neither true b e = absurd (true≢false e)
neither false true e = absurd (true≢false e)
neither false false e = (refl, refl)

either : (a b : Bool) → false ≡ not (a || b) → (a ≡ true) ⊎ ((a ≡ false) × (b ≡ true))
either true b e = inl refl
either false true e = inr (refl, refl)
either false false e = absurd (true≢false (sym e))

-- What comes after silence, by whether groups wait.
pub silent_action : (set : Setting) (p : SweepState) (b : Bool) → p.phase ≡ in_silence → eqb p.waiting 0 ≡ b
    → next_action set p ≡ cond b (budget_checked set p closes) (room_checked set p (opens Scroll scroll 0 (p.waiting - 1) p.next))
silent_action set p b e w =
    ap (action_in set p) e
    ∙ ap (λ (x : Bool). cond x (budget_checked set p closes) (room_checked set p (opens Scroll scroll 0 (p.waiting - 1) p.next))) w

-- A command, by whether the budget is spent.
pub budget_action : (set : Setting) (p : SweepState) (d : Action) (b : Bool) → nat_le set.budget p.commands ≡ b → budget_checked set p d ≡ cond b (stops 8) d
budget_action set p d b e = ap (λ (x : Bool). cond x (stops 8) d) e

-- The stand once one more command is sent.
abbrev pub with_one : Progress → Progress
with_one from = progress_with from.budget from.waiting from.next (with_command from.counts)

module _ {F : Type 0} (kind : Kind F) where
  -- What a stop comes to: nothing has changed but that the sweep is over.
  pub stopped : (set : Setting) (p : SweepState) (held : Lists) (a b : F) (n : ℕ) (s : Stopped) → next_action set p ≡ stops n → b ≡ a
      → stop_number s.stop ≡ n → p.commands ≡ s.counts.commands → p.slots ≡ items_of held.slots → p.serials ≡ items_of held.serials → p.tags ≡ kind.tags a
      → ReachesPosition kind set p (over (stop_number s.stop) s.counts) a b held
  stopped set p held a b n s e same en ec es el et = (
    after_action (stops n) Silence p,
    reaches_stop kind set p n a b e same,
    record { phase = ap ended (sym en); commands = ec; slots = es; serials = el; tags = et ∙ ap kind.tags (sym same) },
  )

  -- What opening a slot comes to, whatever comes of it.
  module _ (set : Setting) (p : SweepState) (command : Command) (frame : List ℕ) (row : ℕ) (from : Progress) (before after : Lists) (a b : F) where
    -- The action, by the two tests before it.
    action_by : (d : Action) (x y : Bool) → set.budget ≡ from.budget → p.commands ≡ from.counts.commands → set.slot_room ≡ capacity_of before.slots
        → p.slots ≡ items_of before.slots → nat_le from.budget from.counts.commands ≡ x → is_full before.slots ≡ y
        → room_checked set p d ≡ cond x (stops 8) (cond y (stops 9) d)
    action_by d x y eb ec er es ea ef =
        ap₂ (λ (v w : Bool). cond v (stops 8) (cond w (stops 9) d))
        (ap₂ nat_le eb ec ∙ ea)
        (ap₂ (λ (n : ℕ) (rows : List ListedSlot). nat_le n (length rows)) er es ∙ ef)

    module _ (eb : set.budget ≡ from.budget) (er : set.slot_room ≡ capacity_of before.slots) (ec : p.commands ≡ from.counts.commands)
        (es : p.slots ≡ items_of before.slots) (el : p.serials ≡ items_of before.serials) (et : p.tags ≡ kind.tags a)
        (next : next_action set p ≡ room_checked set p (opens command frame row from.waiting from.next)) where
      opened_lem : (s : Slot) → next_action set p ≡ opens command frame row from.waiting from.next
          → Opened kind command frame row from before after a b s → ReachesPosition kind set p (position_opened (Ok s)) a b after
      opened_lem s e o = (
        after_action (opens command frame row from.waiting from.next) (heard_in s) p,
        reaches_sent kind set p (opens command frame row from.waiting from.next) frame row (heard_in s) a b e et refl (λ x. x) o.sent,
        record {
          phase = ap (λ x. opened_by (heard_in s) (on_air (opening frame) row x)) et ∙ sym o.phase;
          waiting = ap (λ (x : Progress). x.waiting) (sym o.progress);
          next = ap (λ (x : Progress). x.next) (sym o.progress);
          commands = ap (λ (n : ℕ). n + 1) ec ∙ sym (ap (λ (x : Progress). x.counts.commands) o.progress ∙ counted_commands (heard_in s) from.counts);
          slots = ap (λ (rows : List ListedSlot). rows ++ record { command = command; hearing = heard_in s; waiting = from.waiting } ∷ []) es ∙ sym o.slots;
          serials = el ∙ ap (λ (l : SliceVec (List ℕ)). items_of l) (sym o.serials);
          tags = ap (stepped_all (opening frame) row) et ∙ sym o.sent.tags;
        },
      )

      pub slot_opened : (r : Result Slot Stopped) → MayOpen kind command frame row from before after a b r → ReachesPosition kind set p (position_opened r) a b after
      slot_opened (Ok s) o =
          let tests = neither (nat_le from.budget from.counts.commands) (is_full before.slots) o.opens in
          opened_lem s (next ∙ action_by (opens command frame row from.waiting from.next) false false eb ec er es tests.0 tests.1) o.opened
      slot_opened (Err s) o =
          let commands = ec ∙ ap (λ (c : Counts). c.commands) (sym o.counts) in
          let slots = es ∙ ap (λ (l : Lists). items_of l.slots) (sym o.same.1) in
          let serials = el ∙ ap (λ (l : Lists). items_of l.serials) (sym o.same.1) in
          elim (either (nat_le from.budget from.counts.commands) (is_full before.slots) o.opens) [
            | inl spent ↦ stopped set p after a b 8 s
                (next ∙ action_by (opens command frame row from.waiting from.next) true (is_full before.slots) eb ec er es spent refl) o.same.0
                (o.stop ∙ ap (λ (x : Bool). cond x 8 9) spent) commands slots serials et
            | inr full ↦ stopped set p after a b 9 s
                (next ∙ action_by (opens command frame row from.waiting from.next) false true eb ec er es full.0 full.1) o.same.0
                (o.stop ∙ ap (λ (x : Bool). cond x 8 9) full.0) commands slots serials et
          ]

  -- One READ, however it is heard.
  pub read_once : (set : Setting) (p : SweepState) (serial : List ℕ) (from : Progress) (held : Lists) (h : Hearing) (a b : F)
      → IsAtSlot (in_reading serial) from held (kind.tags a) p → nat_le set.budget p.commands ≡ false → AfterSend kind (read serial) 0 h a b
      → ReachesPosition kind set p (at_slot (read_by h serial) (with_one from)) a b held
  read_once set p serial from held h a b s less sent = (
    after_action (reads serial) h p,
    reaches_sent kind set p (reads serial) (read serial) 0 h a b (ap (action_in set p) s.phase ∙ budget_action set p (reads serial) false less) s.tags refl (λ x. x) sent,
    record {
      phase = refl;
      waiting = s.waiting;
      next = s.next;
      commands = ap (λ (n : ℕ). n + 1) s.commands;
      slots = s.slots;
      serials = s.serials;
      tags = ap (stepped_all (opening (read serial)) 0) s.tags ∙ sym sent.tags;
    },
  )

  -- From there to somewhere else, by a call that is lent as much.
  pub led_on : (set later : Setting) (p q : SweepState) (to : Position) (a b c : F) (held : Lists) → Reaches kind set a b p q → later ≡ set
      → ReachesPosition kind later q to b c held → ReachesPosition kind set p to a c held
  led_on set later p q to a b c held first e rest =
      (rest.0, reaches_more kind set a b c p q rest.0 first (subst (λ (x : Setting). Reaches kind x b c q rest.0) e rest.1), rest.2)

-- What a call is lent is the same before and after it.
pub setting_same : (coins : List ℕ) (b c : ℕ) (before after : Lists) → c ≡ b → capacity_of after.slots ≡ capacity_of before.slots → capacity_of after.serials ≡ capacity_of before.serials
    → setting coins c after ≡ setting coins b before
setting_same coins b c before after eb es el i = record { coins = coins; budget = eb i; slot_room = es i; serial_room = el i }
