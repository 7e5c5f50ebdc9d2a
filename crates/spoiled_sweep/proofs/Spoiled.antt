-- A sweep over a spoiler, action by action: its period stays, and where it is 1 nothing is heard as lone. Assumes nothing.
use Rattle.std.proofs.Common.{◌≡◌, ◌≢◌, ℕ, ◌+◌, ◌%◌, ◌<◌, List, [], ◌∷◌, Result, Ok, Err, sym, ap, ◌∙◌, subst, arith}
use Rattle.std.specs.Prelude.{Any, IsTrue, IfOk, OnErr}
use Rattle.std.specs.List.{AllByRecursion}
use Rattle.std.proofs.lemmas.Bool.{true≢false}
use Rattle.std.proofs.lemmas.List.Folds.{list_any_none, list_any-from_Any}
use Rattle.protocol.specs.declared.refusal.Refusal.{Refusal}
use Rattle.record.specs.declared.Tag.{Tag}
use Rattle.field.specs.declared.field.Field.{Ghosts as Kind}
use Rattle.field.specs.declared.hearing.Hearing.{Hearing}
use Rattle.field.specs.declared.hearing.Hearing.TheVariants.{Silence, Lone, Clash}
use Rattle.field.specs.Airs.{MayHear}
use Rattle.composite_fields.specs.declared.spoiler.Spoiler.{Spoiler}
use Rattle.composite_fields.specs.Spoilers.{period_of, lone_count, spoiled, Spoils}
use Rattle.slot.specs.declared.ending.Report.{Report}
use Rattle.slot.specs.declared.lists.Lists.{Lists}
use Rattle.slot.specs.Counts.{end_number}
use Rattle.slot.specs.Rules.{Setting, SweepState, ended, beginning, Action, stops, opens, lists, reads, closes, rests, next_action, air_of, advanced, MayHearNext, MayHearAll}
use Rattle.slot.specs.Traces.{AfterAction, FieldFollows}
use Rattle.sweep.specs.Effects.{is_due}
use Rattle.sweep.specs.Whole.{outcome_of, Swept}
use Rattle.sweep.proofs.Misses.{none_due}

-- A spoiler of each lone reply hears none.
never : (below h : Hearing) → h ≡ spoiled 1 (0 + lone_count below) below → h ≢ Lone
never Silence h e lone = let k : Silence ≡ Lone = sym e ∙ lone in cc
never Lone h e lone = let k : Clash ≡ Lone = sym e ∙ lone in cc
never Clash h e lone = let k : Clash ≡ Lone = sym e ∙ lone in cc

unheard_silence : (h : Hearing) → h ≡ Silence → h ≢ Lone
unheard_silence h e lone = let k : Silence ≡ Lone = sym e ∙ lone in cc

module _ {F : Type 0} (below : Kind F) (kind : Kind (Spoiler F))
    (spoils : (s t : Spoiler F) (frame : List ℕ) (row : ℕ) (h : Hearing) → kind.hears s frame row (Ok h) t → Spoils below frame row s t h) where
  -- The period stays.
  period_after : (d : Action) (h : Hearing) (s t : Spoiler F) → AfterAction kind d h s t → period_of t ≡ period_of s
  period_after (stops n) h s t e = ap period_of e
  period_after (opens c frame row g next) h s t a = (spoils s t frame row h a.promise).period
  period_after (lists serial) h s t e = ap period_of e
  period_after (reads serial) h s t a = (spoils s t _ _ h a.promise).period
  period_after closes h s t a = (spoils s t _ _ h a.promise).period
  period_after rests h s t e = ap period_of e

  period_along : (set : Setting) (hs : List Hearing) (p : SweepState) (s t : Spoiler F) → FieldFollows kind set hs p s t → period_of t ≡ period_of s
  unfolding FieldFollows
  period_along set [] p s t e = ap period_of e
  period_along set (h ∷ hs) p s t (u, a, rest) =
      period_along set hs (advanced set h p) u t rest ∙ period_after (next_action set p) h s u a

  -- Where it is 1, no action hears a lone reply.
  unheard : (s t : Spoiler F) (frame : List ℕ) (row : ℕ) (h : Hearing) → period_of s ≡ 1 → Spoils below frame row s t h → h ≢ Lone
  unheard s t frame row h one a =
      let none : s.heard ≡ 0 = omega (arith, s.counting) in
      let at_one = subst (λ (k : ℕ). (n : ℕ) → 0 < k → s.heard ≡ n % k → h ≡ spoiled k (n + lone_count a.heard_below) a.heard_below) one a.hears in
      never a.heard_below h (at_one 0 (omega arith) none)

  unheard_action : (d : Action) (tags : List Tag) (h : Hearing) (s t : Spoiler F) → period_of s ≡ 1 → MayHear (air_of d tags) h → AfterAction kind d h s t → h ≢ Lone
  unheard_action (stops n) tags h s t one m a = unheard_silence h m
  unheard_action (opens c frame row g next) tags h s t one m a = unheard s t frame row h one (spoils s t frame row h a.promise)
  unheard_action (lists serial) tags h s t one m a = unheard_silence h m
  unheard_action (reads serial) tags h s t one m a = unheard s t _ _ h one (spoils s t _ _ h a.promise)
  unheard_action closes tags h s t one m a = unheard s t _ _ h one (spoils s t _ _ h a.promise)
  unheard_action rests tags h s t one m a = unheard_silence h m

  unheard_along : (set : Setting) (hs : List Hearing) (p : SweepState) (s t : Spoiler F) → period_of s ≡ 1 → MayHearAll set hs p → FieldFollows kind set hs p s t
      → AllByRecursion (λ h. h ≢ Lone) hs
  unfolding MayHearAll MayHearNext FieldFollows
  unheard_along set [] p s t one heard e = tt
  unheard_along set (h ∷ hs) p s t one heard (u, a, rest) = (
    unheard_action (next_action set p) p.tags h s u one heard.0 a,
    unheard_along set hs (advanced set h p) u t (period_after (next_action set p) h s u a ∙ one) heard.1 rest,
  )

  -- What a sweep, or its refusal, leaves and says.
  module _ (set : Setting) (s t : Spoiler F) (l : Lists) where
    pub period_kept : (answer : Result Report Refusal) (X : Type 0) → IfOk answer (λ r. Swept kind set s t (outcome_of r l)) → OnErr answer ((t ≡ s) × X)
        → period_of t ≡ period_of s
    period_kept (Ok r) X w same = period_along set w.hearings (beginning (kind.tags s)) s t w.field
    period_kept (Err e) X w same = ap period_of same.0

    never_whole : (r : Report) → Swept kind set s t (outcome_of r l) → period_of s ≡ 1 → Any (λ x. IsTrue (is_due x)) (kind.tags s) → end_number r.end ≢ 0
    never_whole r w one some whole =
        let tags : List Tag = kind.tags s in
        let none = none_due set w.hearings tags (kind.sized s) w.heard (unheard_along set w.hearings (beginning tags) s t one w.heard w.field)
        (w.by_rule.at_end ∙ ap ended whole) in
        true≢false (sym (list_any-from_Any is_due tags some) ∙ list_any_none is_due tags none)

    pub ends_early : (answer : Result Report Refusal) → IfOk answer (λ r. Swept kind set s t (outcome_of r l))
        → IfOk answer (λ r. period_of s ≡ 1 → Any (λ x. IsTrue (is_due x)) (kind.tags s) → end_number r.end ≢ 0)
    ends_early (Ok r) w = never_whole r w
    ends_early (Err e) w = tt
