-- A sweep of no tags, action by action. Assumes nothing.
use Rattle.std.proofs.Common.{◌≡◌, ℕ, List, [], ◌∷◌, sym, refl, ap, ◌∙◌, subst, arith}
use Rattle.protocol.specs.declared.command.Command.TheVariants.{Select}
use Rattle.field.specs.declared.hearing.Hearing.{Hearing}
use Rattle.field.specs.declared.hearing.Hearing.TheVariants.{Silence}
use Rattle.field.specs.Sends.{stepped_all, on_air}
use Rattle.slot.specs.declared.ending.End.{End}
use Rattle.slot.specs.declared.ending.End.TheVariants.{Whole, Stopped}
use Rattle.slot.specs.declared.ending.Stop.TheVariants.{Deep, Spent, Full}
use Rattle.slot.specs.Counts.{end_number}
use Rattle.slot.specs.Rules.{Phase, fresh, in_silence, in_lone, in_clash, in_reading, ended, SweepState, beginning, advanced, MayHearNext, run_by, MayHearAll}
use Rattle.sweep.specs.Cases.{narrow, EmptySweeps}
use Rattle.sweep.specs.Whole.{Reported}

abbrev last : SweepState
last =
    record {
      phase = ended 0;
      waiting = 0;
      next = 0;
      commands = 2;
      reads = 0;
      slots = record { command = Select; hearing = Silence; waiting = 0 } ∷ [];
      serials = [];
      tags = [];
    }

-- How far a phase is along.
abbrev is_over : Phase → ℕ
is_over fresh = 0
is_over in_silence = 0
is_over (in_lone s) = 0
is_over in_clash = 0
is_over (in_reading s) = 0
is_over (ended n) = 1

abbrev number_of_end : Phase → ℕ
number_of_end fresh = 0
number_of_end in_silence = 0
number_of_end (in_lone s) = 0
number_of_end in_clash = 0
number_of_end (in_reading s) = 0
number_of_end (ended n) = n

unfinished : {P : Type 0} (p q : Phase) (k : ℕ) → p ≡ q → is_over q ≡ 0 → p ≡ ended k → P
unfinished p q k e o f = absurd (let z : ◌≡◌ {A = ℕ} 0 1 = sym o ∙ ap is_over (sym e) ∙ ap is_over f in omega arith)

module _ (row room : ℕ) where
  stays : (hs : List Hearing) → run_by (narrow row room) hs last ≡ last
  unfolding run_by advanced
  stays [] = refl
  stays (h ∷ hs) = stays hs

  closed : (h : Hearing) → advanced (narrow row room) h (advanced (narrow row room) Silence (beginning [])) ≡ last
  unfolding advanced on_air stepped_all
  closed h = refl

  opened : (advanced (narrow row room) Silence (beginning [])).phase ≡ in_silence
  unfolding advanced on_air
  opened = refl

  only_silence : (h : Hearing) → MayHearNext (narrow row room) (beginning []) h → h ≡ Silence
  unfolding MayHearNext on_air
  only_silence h e = e

  second : (hs : List Hearing) (k : ℕ) → (run_by (narrow row room) hs (advanced (narrow row room) Silence (beginning []))).phase ≡ ended k → run_by (narrow row room) hs (advanced (narrow row room) Silence (beginning [])) ≡ last
  unfolding run_by
  second [] k e = unfinished _ in_silence k opened refl e
  second (h ∷ hs) k e = ap (run_by (narrow row room) hs) (closed h) ∙ stays hs

  first : (hs : List Hearing) (k : ℕ) → MayHearAll (narrow row room) hs (beginning []) → (run_by (narrow row room) hs (beginning [])).phase ≡ ended k → run_by (narrow row room) hs (beginning []) ≡ last
  unfolding run_by MayHearAll
  first [] k h e = unfinished _ fresh k refl refl e
  first (x ∷ hs) k h e =
      let heard : x ≡ Silence = only_silence x h.0 in
      ap (λ (y : Hearing). run_by (narrow row room) hs (advanced (narrow row room) y (beginning []))) heard
      ∙ second hs k (ap (λ (y : Hearing). (run_by (narrow row room) hs (advanced (narrow row room) y (beginning []))).phase) (sym heard) ∙ e)

whole_end : (e : End) → end_number e ≡ 0 → e ≡ Whole
whole_end Whole z = refl
whole_end (Stopped Deep) z = absurd (omega (arith, z))
whole_end (Stopped Spent) z = absurd (omega (arith, z))
whole_end (Stopped Full) z = absurd (omega (arith, z))

pub empty_sweeps : EmptySweeps
unfolding EmptySweeps
empty_sweeps = (
  (λ row room hs o after heard by_rule.
      let r = subst (Reported o after) (first row room hs (end_number o.report.end) heard by_rule.at_end) by_rule in
      let whole : o.report.end ≡ Whole = whole_end o.report.end (ap number_of_end (sym r.at_end)) in
      (λ i. record { end = whole i; counts = record { lone = r.lone i; silent = r.silent i; clash = r.clash i; commands = r.commands i } }, r.slots)),
  tt,
)
