-- From slot to slot of a sweep: what each step adds to those before it. Assumes nothing.
use Rattle.std.proofs.Common.{◌≡◌, ℕ, ◌+◌, ◌-◌, ◌≤◌, List, [], ◌∷◌, length, drop, sym, ap, ◌∙◌, arith}
use Rattle.std.proofs.lemmas.List.{length-append, drop-drop}
use Rattle.record.specs.declared.Tag.{Tag}
use Rattle.slice_vec.specs.declared.vec.SliceVec.{SliceVec}
use Rattle.slice_vec.specs.Filling.{items_of, Behind}
use Rattle.slice_vec.proofs.Fillings.{behind_more}
use Rattle.field.specs.declared.field.Field.{Ghosts as Kind}
use Rattle.field.specs.declared.hearing.Hearing.{Hearing}
use Rattle.slot.specs.declared.kinds.Progress.{Progress}
use Rattle.slot.specs.declared.lists.Lists.{Lists}
use Rattle.slot.specs.Calls.{setting, Position, at_slot, over, Begins, Continues, IsAt, BothBehind}
use Rattle.slot.specs.Rules.{Setting, Phase, SweepState, Action, stops, opens, lists, reads, closes, rests, beginning, next_action, after_action, advanced, run_by}
use Rattle.slot.proofs.Moves.{led_on, setting_same}
use Rattle.sweep.proofs.Rooms.{keeps}

-- Lists only grow.
slots_grow : (d : Action) (h : Hearing) (p : SweepState) → length p.slots ≤ length (after_action d h p).slots
slots_grow (stops n) h p = omega arith
slots_grow (opens c frame row g next) h p = omega (arith, length-append p.slots (record { command = c; hearing = h; waiting = g } ∷ []))
slots_grow (lists serial) h p = omega arith
slots_grow (reads serial) h p = omega arith
slots_grow closes h p = omega arith
slots_grow rests h p = omega arith

serials_grow : (d : Action) (h : Hearing) (p : SweepState) → length p.serials ≤ length (after_action d h p).serials
serials_grow (stops n) h p = omega arith
serials_grow (opens c frame row g next) h p = omega arith
serials_grow (lists serial) h p = omega (arith, length-append p.serials (serial ∷ []))
serials_grow (reads serial) h p = omega arith
serials_grow closes h p = omega arith
serials_grow rests h p = omega arith

slots_run : (set : Setting) (hs : List Hearing) (p : SweepState) → length p.slots ≤ length (run_by set hs p).slots
unfolding run_by advanced
slots_run set [] p = omega arith
slots_run set (h ∷ hs) p = omega (arith, slots_grow (next_action set p) h p, slots_run set hs (after_action (next_action set p) h p))

serials_run : (set : Setting) (hs : List Hearing) (p : SweepState) → length p.serials ≤ length (run_by set hs p).serials
unfolding run_by advanced
serials_run set [] p = omega arith
serials_run set (h ∷ hs) p = omega (arith, serials_grow (next_action set p) h p, serials_run set hs (after_action (next_action set p) h p))

shown_slots : (w : Position) (l : Lists) (population : List Tag) (p : SweepState) → IsAt w l population p → p.slots ≡ items_of l.slots
shown_slots (at_slot phase progress) l population p s = s.slots
shown_slots (over n counts) l population p s = s.slots

shown_serials : (w : Position) (l : Lists) (population : List Tag) (p : SweepState) → IsAt w l population p → p.serials ≡ items_of l.serials
shown_serials (at_slot phase progress) l population p s = s.serials
shown_serials (over n counts) l population p s = s.serials

module _ {F : Type 0} (kind : Kind F) (coins : List ℕ) (budget : ℕ) (first : Lists) (before : F) where
  -- A sweep that has come somewhere from its beginning.
  abbrev pub Come : Position → F → Lists → Type 0
  Come w field l = Begins kind (setting coins budget first) w before field l

  -- It keeps to the budget, and so its slots are few.
  pub few : (w : Position) (field : F) (l : Lists) → Come w field l → length (items_of l.slots) ≤ budget
  few w field l come =
      let kept = keeps (setting coins budget first) come.1.hearings (kind.tags before) in
      let same : items_of l.slots ≡ (run_by (setting coins budget first) come.1.hearings (beginning (kind.tags before))).slots =
      sym (shown_slots w l (kind.tags field) come.0 come.2) ∙ ap (λ (p : SweepState). p.slots) come.1.there in
      omega (arith, ap length same, kept.opened, kept.budget)

  module _ (phase : Phase) (progress : Progress) (now : Lists) (field : F) (come : Come (at_slot phase progress) field now) (same : progress.budget ≡ budget)
      (behind : BothBehind first now) (w : Position) (later : Lists) (left : F) (next : Continues kind coins (at_slot phase progress) w field left now later) where
    pub come_on : Come w left later
    come_on =
        led_on kind (setting coins budget first) (setting coins progress.budget now) (beginning (kind.tags before)) come.0 w before field left later come.1
        (setting_same coins budget progress.budget first now same behind.slots.room behind.serials.room) (next come.0 come.2)

    pub behind_on : BothBehind now later → BothBehind first later
    behind_on more =
        let r = next come.0 come.2 in
        let slots : length (items_of now.slots) ≤ length (items_of later.slots) =
        omega (
          arith,
          ap length come.2.slots,
          ap length (shown_slots w later (kind.tags left) r.0 r.2),
          ap (λ (p : SweepState). length p.slots) r.1.there,
          slots_run (setting coins progress.budget now) r.1.hearings come.0,
        ) in
        let serials : length (items_of now.serials) ≤ length (items_of later.serials) =
        omega (
          arith,
          ap length come.2.serials,
          ap length (shown_serials w later (kind.tags left) r.0 r.2),
          ap (λ (p : SweepState). length p.serials) r.1.there,
          serials_run (setting coins progress.budget now) r.1.hearings come.0,
        ) in
        record {
          slots = behind_more first.slots now.slots later.slots behind.slots more.slots slots;
          serials = behind_more first.serials now.serials later.serials behind.serials more.serials serials;
        }
