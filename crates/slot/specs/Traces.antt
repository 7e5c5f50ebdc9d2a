-- A sweep over a field, action by action. Assumes nothing.
use Rattle.std.specs.Prelude.{◌≡◌, List, [], ◌∷◌, length, IsTrue}
use Rattle.field.specs.declared.field.Field.{Ghosts as Kind}
use Rattle.field.specs.declared.hearing.Hearing.{Hearing}
use Rattle.field.specs.Promises.{AfterSend}
use Rattle.slot.specs.Commands.{repeat, read}
use Rattle.slot.specs.Rules.{Setting, SweepState, Action, stops, opens, lists, reads, closes, rests}
use Rattle.slot.specs.Rules.{next_action, advanced, run_by, MayHearAll, replayed}

-- The field before and after an action. One that sends has sent just its frame with its row, of which just this was heard;
-- one that sends nothing leaves the field as it is.
abbrev pub AfterAction : {F : Type 0} → Kind F → Action → Hearing → F → F → Type 0
AfterAction kind (stops n) h before after = after ≡ before
AfterAction kind (opens c frame row g next) h before after = AfterSend kind frame row h before after
AfterAction kind (lists serial) h before after = after ≡ before
AfterAction kind (reads serial) h before after = AfterSend kind (read serial) 0 h before after
AfterAction kind closes h before after = AfterSend kind repeat 0 h before after
AfterAction kind rests h before after = after ≡ before

-- The field follows a sweep, from action to action, and nothing else is done to it.
unfoldable pub FieldFollows : {F : Type 0} → Kind F → Setting → List Hearing → SweepState → F → F → Type 0
FieldFollows kind set [] p before after = after ≡ before
FieldFollows {F} kind set (h ∷ hs) p before after =
    (between : F) × AfterAction kind (next_action set p) h before between
    × FieldFollows kind set hs (advanced set h p) between after

-- From one state of a sweep to a later one, with the field before and after: by hearings such as may come, and where
-- every lone reply is heard as lone, by nothing but the rule.
pub record Reaches {F : Type 0} (kind : Kind F) (set : Setting) (before after : F) (p q : SweepState) : Type 0 where
  pub hearings : List Hearing
  pub heard : MayHearAll set hearings p
  pub there : q ≡ run_by set hearings p
  pub plain : IsTrue (kind.faithful before) → q ≡ replayed set (length hearings) p
  pub field : FieldFollows kind set hearings p before after
