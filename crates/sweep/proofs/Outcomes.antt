-- From where a sweep has come to what it reports, and the laws of that. Assumes nothing.
use Rattle.std.proofs.Common.{◌≡◌, ℕ, zero, suc, ◌+◌, inl, inr, cond, List, [], ◌∷◌, length, sym, refl, ap, ◌∙◌, subst, arith}
use Rattle.std.proofs.lemmas.List.Sums.{sum_by-cons}
use Rattle.std.specs.Prelude.{◌==◌}
use Rattle.record.specs.declared.Tag.{Tag}
use Rattle.field.specs.declared.field.Field.{Ghosts as Kind}
use Rattle.field.specs.Airs.{hearing_number}
use Rattle.slice_vec.specs.Filling.{items_of}
use Rattle.field.specs.declared.hearing.Hearing.{Hearing}
use Rattle.field.specs.declared.hearing.Hearing.TheVariants.{Silence, Lone, Clash}
use Rattle.slot.specs.declared.listed.ListedSlot.{ListedSlot}
use Rattle.slot.specs.declared.ending.Report.{Report}
use Rattle.slot.specs.declared.lists.Lists.{Lists}
use Rattle.slot.specs.Counts.{end_number}
use Rattle.slot.specs.Calls.{setting, over, IsAtEnd}
use Rattle.slot.specs.Rules.{Setting, SweepState, ended, beginning, run_by, replayed, advanced, next_plain_hearing}
use Rattle.sweep.specs.Effects.{due_serials, Distinct, EachOnce}
use Rattle.sweep.specs.Working.{Tallied}
use Rattle.sweep.specs.Tallies.{heard_as, enough}
use Rattle.sweep.specs.Whole.{Outcome, outcome_of, Reported, Swept, Complete, Lawful}
use Rattle.sweep.proofs.Balances.{ends_balanced}
use Rattle.sweep.proofs.Ends.{settles}
use Rattle.sweep.proofs.Runs.{sweep_effects}
use Rattle.sweep.proofs.Readings.{reads_once}
use Rattle.sweep.proofs.Rooms.{keeps}
use Rattle.sweep.proofs.Walks.{Come}

-- A slot counts in one of three ways.
abbrev one_of : Hearing → ListedSlot → ℕ
one_of h row = cond (hearing_number row.hearing == hearing_number h) 1 0

ways : (h : Hearing) → cond (hearing_number h == 1) 1 0 + cond (hearing_number h == 0) 1 0 + cond (hearing_number h == 2) 1 0 ≡ 1
ways Silence = refl
ways Lone = refl
ways Clash = refl

counted_first : (h : Hearing) (row : ListedSlot) (rows : List ListedSlot) → heard_as h (row ∷ rows) ≡ one_of h row + heard_as h rows
counted_first h row rows = sum_by-cons (one_of h) row rows

pub all_heard : (rows : List ListedSlot) → heard_as Lone rows + heard_as Silence rows + heard_as Clash rows ≡ length rows
all_heard [] = refl
all_heard (row ∷ rows) =
    omega (arith, counted_first Lone row rows, counted_first Silence row rows, counted_first Clash row rows, ways row.hearing, all_heard rows)

-- A replay is a run with hearings that are settled.
replay_is_run : (set : Setting) (n : ℕ) (p : SweepState) → (hs : List Hearing) × (replayed set n p ≡ run_by set hs p)
unfolding replayed run_by
replay_is_run set zero p = ([], refl)
replay_is_run set (suc n) p = let rest = replay_is_run set n (advanced set (next_plain_hearing set p) p) in (next_plain_hearing set p ∷ rest.0, rest.1)

module _ {F : Type 0} (kind : Kind F) (coins : List ℕ) (budget : ℕ) (first : Lists) (before : F) (report : Report) (l : Lists) (after : F)
    (come : Come kind coins budget first before (over (end_number report.end) report.counts) after l) (tally : Tallied report.counts (items_of l.slots)) where
  abbrev set : Setting
  set = setting coins budget first

  abbrev outcome : Outcome
  outcome = outcome_of report l

  reported : (q : SweepState) → IsAtEnd (end_number report.end) report.counts l (kind.tags after) q → Reported outcome (kind.tags after) q
  reported q e =
      record {
        at_end = e.phase;
        commands = sym e.commands;
        lone = tally.lone ∙ ap (heard_as Lone) (sym e.slots);
        silent = tally.silent ∙ ap (heard_as Silence) (sym e.slots);
        clash = tally.clash ∙ ap (heard_as Clash) (sym e.slots);
        slots = sym e.slots;
        serials = sym e.serials;
        tags = sym e.tags;
      }

  pub swept_by : Swept kind set before after outcome
  swept_by =
      let r = subst (Reported outcome (kind.tags after)) come.1.there (reported come.0 come.2) in
      record {
        hearings = come.1.hearings;
        heard = come.1.heard;
        by_rule = r;
        field = come.1.field;
        plain = λ f.
            let e = come.1.plain f in
            subst (Reported outcome (kind.tags after))
            (e ∙ settles set (length come.1.hearings) (end_number report.end) (kind.tags before) (ap (λ (p : SweepState). p.phase) (sym e) ∙ come.2.phase))
            (reported come.0 come.2);
        commands = λ e.
            let c = ends_balanced set come.1.hearings (kind.tags before) (r.at_end ∙ ap ended e) in
            r.commands ∙ c.commands ∙ ap (λ (n : ℕ). n + (run_by set come.1.hearings (beginning (kind.tags before))).reads + 1) (ap length (sym r.slots));
      }

-- What holds of every sweep.
module _ {F : Type 0} (kind : Kind F) (set : Setting) (a b : F) (o : Outcome) (s : Swept kind set a b o) where
  abbrev before : List Tag
  before = kind.tags a

  whole : end_number o.report.end ≡ 0 → Complete (kind.faithful a) before (kind.tags b) o
  whole e =
      let p : SweepState = run_by set s.hearings (beginning before) in
      let c = ends_balanced set s.hearings before (s.by_rule.at_end ∙ ap ended e) in
      let sweep_effect = λ (d : Distinct before). sweep_effects set s.hearings before (kind.sized a) d s.heard (s.by_rule.at_end ∙ ap ended e) in
      record {
        slots = omega (arith, c.slots, s.by_rule.lone, s.by_rule.silent, s.by_rule.clash);
        commands = λ f.
            let r = s.plain f in
            let q : SweepState = replayed set (enough set) (beginning before) in
            let same = replay_is_run set (enough set) (beginning before) in
            let ended_so : q.phase ≡ ended 0 = r.at_end ∙ ap ended e in
            let d = ends_balanced set same.0 before (ap (λ (x : SweepState). x.phase) (sym same.1) ∙ ended_so) in
            let all : q.commands ≡ length q.slots + q.reads + 1 = subst (λ (x : SweepState). x.commands ≡ length x.slots + x.reads + 1) (sym same.1) d.commands in
            omega (arith, all, r.commands, ap length r.slots, r.lone, reads_once set (enough set) before ended_so);
        tags = λ d. s.by_rule.tags ∙ (sweep_effect d).tags;
        serials = λ d. subst (λ (x : List (List ℕ)). EachOnce x (due_serials before)) (sym s.by_rule.serials) (sweep_effect d).serials;
      }

  pub lawful : Lawful (kind.faithful a) set before (kind.tags b) o
  lawful =
      let k = keeps set s.hearings before in
      record {
        budget = omega (arith, k.budget, s.by_rule.commands);
        slots = omega (arith, s.by_rule.lone, s.by_rule.silent, s.by_rule.clash, all_heard (run_by set s.hearings (beginning before)).slots, ap length s.by_rule.slots);
        spent = λ e. s.by_rule.commands ∙ k.spent (s.by_rule.at_end ∙ ap ended e);
        full = λ e. elim (k.full (s.by_rule.at_end ∙ ap ended e)) [
          | inl slots ↦ inl (ap length s.by_rule.slots ∙ slots)
          | inr serials ↦ inr (ap length s.by_rule.serials ∙ serials)
        ];
        whole = whole;
      }
