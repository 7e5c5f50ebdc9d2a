-- The history of a field over some steps: what it has answered to each, and the field after it. Assumes nothing.
use Rattle.std.specs.Prelude.{List, [], ◌∷◌}
use Rattle.field.specs.declared.field.Field.{Ghosts as Kind}
use Rattle.history.specs.Steps.{Step, CallOutcome, AfterStep}

-- A field once a step is over.
pub record HistoryEntry (F : Type 0) : Type 0 where
  pub outcome : CallOutcome
  pub field : F

-- The entries of a field that is given some steps, one after the other, and nothing between them.
unfoldable pub History : {F : Type 0} → Kind F → List Step → F → List (HistoryEntry F) → Type 0
History kind [] field [] = Unit {0}
History kind (step ∷ steps) field (m ∷ ms) = AfterStep kind step field m.outcome m.field × History kind steps m.field ms
History kind steps field ms = ⊥

-- The field at the end.
unfoldable pub field_after : {F : Type 0} → F → List (HistoryEntry F) → F
field_after field [] = field
field_after field (m ∷ ms) = field_after m.field ms
