-- What a field is asked, call by call, and what it may make of it. Assumes nothing.
use Rattle.std.specs.Prelude.{◌≡◌, ℕ, List, [], ◌∷◌, Err, IsTrue, IsFalse}
use Rattle.protocol.specs.declared.refusal.Refusal.{Refusal}
use Rattle.protocol.specs.Refusals.{number_of}
use Rattle.field.specs.declared.field.Field.{Ghosts as Kind}
use Rattle.field.specs.declared.hearing.Hearing.{Hearing}
use Rattle.field.specs.Promises.{AfterSend, AfterGap}
use Rattle.field.specs.Sends.{is_short}
use Rattle.slot.specs.Calls.{setting, is_recorded}
use Rattle.slot.specs.Rules.{Setting}
use Rattle.sweep.specs.Whole.{Outcome, Swept}
use Rattle.history.specs.declared.call.Call.{Call}
use Rattle.history.specs.declared.call.Call.TheVariants as call
use Rattle.history.specs.declared.workspace.Workspace.{Workspace}

-- A call, with what a field has of its own for it.
pub data Step : Type 0 where
  -- the bytes of a frame, the row of coins, and the length of the reply buffer
  send : List ℕ → ℕ → ℕ → Step
  -- so many microseconds
  gap : ℕ → Step
  sweep : Setting → Step

abbrev pub step_of : Call → Workspace → Step
step_of (call.Send frame row room) workspace = send frame.now row room
step_of (call.Gap microseconds) workspace = gap microseconds
step_of call.Sweep workspace = sweep (setting workspace.coins.now workspace.budget workspace.lists)

-- Calls in their order, each with the workspace at its place.
unfoldable pub steps_of : List Call → List Workspace → List Step
steps_of [] workspaces = []
steps_of (c ∷ cs) [] = []
steps_of (c ∷ cs) (d ∷ ds) = step_of c d ∷ steps_of cs ds

-- What a field answers.
pub data CallOutcome : Type 0 where
  refused : Refusal → CallOutcome
  heard : Hearing → CallOutcome
  passed : CallOutcome
  swept : Outcome → CallOutcome

-- A send that is refused: nothing has changed.
pub record AfterRefusal {F : Type 0} (kind : Kind F) (frame : List ℕ) (row : ℕ) (e : Refusal) (before after : F) : Type 0 where
  pub number : number_of e ≡ 5
  pub same : after ≡ before
  pub promise : kind.hears before frame row (Err e) after

-- What a field may make of a step: the field before, the answer, and the field after.
abbrev pub AfterStep : {F : Type 0} → Kind F → Step → F → CallOutcome → F → Type 0
AfterStep kind (send frame row room) before (refused e) after = IsTrue (is_short room) × AfterRefusal kind frame row e before after
AfterStep kind (send frame row room) before (heard h) after = IsFalse (is_short room) × AfterSend kind frame row h before after
AfterStep kind (gap microseconds) before passed after = AfterGap kind microseconds before after
AfterStep kind (sweep set) before (refused e) after = IsFalse (is_recorded set.coins) × (number_of e ≡ 10) × (after ≡ before)
AfterStep kind (sweep set) before (swept o) after = IsTrue (is_recorded set.coins) × Swept kind set before after o
AfterStep kind step before outcome after = ⊥
