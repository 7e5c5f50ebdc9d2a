-- The run of a field over a list of calls, with a workspace for each. Assumes nothing.
use Rattle.std.specs.Prelude.{◌≡◌, List, [], ◌∷◌, Some, Ok, Err, Result}
use Rattle.protocol.specs.declared.refusal.Refusal.{Refusal}
use Rattle.slice_vec.specs.Filling.{items_of}
use Rattle.field.specs.declared.field.Field.{Ghosts as Kind}
use Rattle.field.specs.declared.hearing.Hearing.{Hearing}
use Rattle.slot.specs.declared.lists.Lists.{Lists}
use Rattle.slot.specs.Calls.{BothBehind}
use Rattle.history.specs.declared.call.Call.{Call}
use Rattle.history.specs.declared.workspace.Answer.{Answer}
use Rattle.history.specs.declared.workspace.Answer.TheVariants as answer
use Rattle.history.specs.declared.workspace.Workspace.{Workspace}
use Rattle.history.specs.Histories.{HistoryEntry, History, field_after}
use Rattle.history.specs.Steps.{Step, CallOutcome, refused, heard, passed, swept, steps_of, AfterStep}

-- What a send comes to, by its result.
abbrev pub send_outcome : Result Hearing Refusal → CallOutcome
send_outcome (Ok h) = heard h
send_outcome (Err e) = refused e

-- What is written down of an answer.
abbrev pub answer_of : CallOutcome → Answer
answer_of (refused e) = answer.Refused e
answer_of (heard h) = answer.Heard h
answer_of passed = answer.Passed
answer_of (swept o) = answer.Swept o.report

-- The lists of a workspace: a sweep leaves its own in them, and the storage behind as it was; nothing else touches them.
abbrev pub ListsAfter : CallOutcome → Lists → Lists → Type 0
ListsAfter (refused e) before after = after ≡ before
ListsAfter (heard h) before after = after ≡ before
ListsAfter passed before after = after ≡ before
ListsAfter (swept o) before after = (items_of after.slots ≡ o.slots) × (items_of after.serials ≡ o.serials) × BothBehind before after

-- A workspace before and after its call.
pub record WorkspaceAfter (before : Workspace) (outcome : CallOutcome) (after : Workspace) : Type 0 where
  pub coins : after.coins ≡ before.coins
  pub budget : after.budget ≡ before.budget
  pub lists : ListsAfter outcome before.lists after.lists
  pub answer : after.answer ≡ Some (answer_of outcome)

-- The workspaces before and after a run, of which each has the answer of its call. Those beyond the calls are untouched.
unfoldable pub WorkspacesAfter : {F : Type 0} → List Workspace → List (HistoryEntry F) → List Workspace → Type 0
WorkspacesAfter before [] after = after ≡ before
WorkspacesAfter (d ∷ ds) (m ∷ ms) (e ∷ es) = WorkspaceAfter d m.outcome e × WorkspacesAfter ds ms es
WorkspacesAfter before ms after = ⊥

-- One call.
pub record AfterCall {F : Type 0} (kind : Kind F) (step : Step) (before after : Workspace) (start end : F) : Type 0 where
  pub outcome : CallOutcome
  pub after_step : AfterStep kind step start outcome end
  pub filled : WorkspaceAfter before outcome after

-- A list of calls: there is a history of the field in just this run, which ends with the field as it is left, and of which
-- the workspaces tell every answer.
pub record Ran {F : Type 0} (kind : Kind F) (calls : List Call) (before after : List Workspace) (start end : F) : Type 0 where
  pub entries : List (HistoryEntry F)
  pub history : History kind (steps_of calls before) start entries
  pub at_end : end ≡ field_after start entries
  pub workspaces : WorkspacesAfter before entries after
