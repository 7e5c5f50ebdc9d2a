-- One call, and one call before the others. Assumes nothing.
use Rattle.std.proofs.Common.{◌≡◌, ℕ, ◌+◌, ◌<◌, Bool, true, false, List, [], ◌∷◌, ◌++◌, length, get_or, take, drop, set, Some, None, Option, sym, refl, ap, ◌∙◌, subst, arith}
use Rattle.std.proofs.lemmas.List.{append_assoc, take_more_set, drop_more, drop-set-lt}
use Rattle.std.specs.Prelude.{if◌then◌else◌}
use Rattle.protocol.specs.declared.refusal.Refusal.{Refusal}
use Rattle.protocol.specs.Refusals.{number_of}
use Rattle.field.specs.declared.field.Field.{Ghosts as Kind}
use Rattle.slot.specs.declared.ending.Report.{Report}
use Rattle.slot.specs.declared.lists.Lists.{Lists}
use Rattle.slot.specs.Calls.{setting, is_recorded, BothBehind}
use Rattle.sweep.specs.Whole.{outcome_of, Swept}
use Rattle.history.specs.declared.call.Call.{Call}
use Rattle.history.specs.declared.workspace.Answer.TheVariants as answer
use Rattle.history.specs.declared.workspace.Workspace.{Workspace}
use Rattle.history.specs.Histories.{History, field_after}
use Rattle.history.specs.Steps.{sweep, refused, swept, step_of, steps_of}
use Rattle.history.specs.Runs.{AfterCall, Ran, WorkspacesAfter}

accepted : (b : Bool) → ◌≡◌ {A = Option ℕ} None (if b then None else Some 10) → b ≡ true
accepted true e = refl
accepted false e = cc

declined : (b : Bool) (n : ℕ) → Some n ≡ (if b then None else Some 10) → (b ≡ false) × (n ≡ 10)
declined true n e = cc
declined false n e = (refl, cc)

module _ {F : Type 0} (kind : Kind F) where
  -- A sweep at a workspace, by what the call that sweeps promises.
  pub called_swept : (d : Workspace) (l : Lists) (a b : F) (r : Report) → ◌≡◌ {A = Option ℕ} None (if is_recorded d.coins.now then None else Some 10)
      → Swept kind (setting d.coins.now d.budget d.lists) a b (outcome_of r l) → BothBehind d.lists l
      → AfterCall kind (sweep (setting d.coins.now d.budget d.lists)) d (record { coins = d.coins; budget = d.budget; lists = l; answer = Some (answer.Swept r) }) a b
  called_swept d l a b r recorded rule behind =
      record {
        outcome = swept (outcome_of r l);
        after_step = (accepted (is_recorded d.coins.now) recorded, rule);
        filled = record { coins = refl; budget = refl; lists = (refl, refl, behind); answer = refl };
      }

  pub called_refused : (d : Workspace) (l : Lists) (a b : F) (e : Refusal) → Some (number_of e) ≡ (if is_recorded d.coins.now then None else Some 10)
      → (b ≡ a) × (l ≡ d.lists)
      → AfterCall kind (sweep (setting d.coins.now d.budget d.lists)) d (record { coins = d.coins; budget = d.budget; lists = l; answer = Some (answer.Refused e) }) a b
  called_refused d l a b e refusal same =
      let why = declined (is_recorded d.coins.now) (number_of e) refusal in
      record {
        outcome = refused e;
        after_step = (why.0, why.1, same.0);
        filled = record { coins = refl; budget = refl; lists = same.1; answer = refl };
      }

  -- No call more.
  pub ran_none : (workspaces : List Workspace) (a : F) → Ran kind [] workspaces workspaces a a
  unfolding steps_of History field_after WorkspacesAfter
  ran_none workspaces a = record { entries = []; history = tt; at_end = refl; workspaces = refl }

  -- A call, and then the others.
  pub ran_more : (c : Call) (cs : List Call) (d e : Workspace) (ds es : List Workspace) (a b end : F) → AfterCall kind (step_of c d) d e a b → Ran kind cs ds es b end
      → Ran kind (c ∷ cs) (d ∷ ds) (e ∷ es) a end
  unfolding steps_of History field_after WorkspacesAfter
  ran_more c cs d e ds es a b end one rest =
      record {
        entries = record { outcome = one.outcome; field = b } ∷ rest.entries;
        history = (one.after_step, rest.history);
        at_end = rest.at_end;
        workspaces = (one.filled, rest.workspaces);
      }

  -- The call at a place, before those behind it.
  pub ran_from : (calls : List Call) (workspaces : List Workspace) (i : ℕ) (c : Call) (d e : Workspace) (rest : List Workspace) (a b end : F) → i < length calls
      → i < length workspaces → AfterCall kind (step_of (get_or calls i c) (get_or workspaces i d)) (get_or workspaces i d) e a b
      → Ran kind (drop (i + 1) calls) (drop (i + 1) (set workspaces i e)) rest b end → Ran kind (drop i calls) (drop i workspaces) (e ∷ rest) a end
  ran_from calls workspaces i c d e rest a b end in_calls in_workspaces one others =
      let later : drop (i + 1) (set workspaces i e) ≡ drop (i + 1) workspaces = drop-set-lt (i + 1) workspaces i e (omega arith) in
      subst (λ (cs : List Call). Ran kind cs (drop i workspaces) (e ∷ rest) a end) (sym (drop_more calls i c in_calls))
      (subst (λ (ds : List Workspace). Ran kind (get_or calls i c ∷ drop (i + 1) calls) ds (e ∷ rest) a end) (sym (drop_more workspaces i d in_workspaces))
      (ran_more (get_or calls i c) (drop (i + 1) calls) (get_or workspaces i d) e (drop (i + 1) workspaces) rest a b end one
      (subst (λ (ds : List Workspace). Ran kind (drop (i + 1) calls) ds rest b end) later others)))

-- The workspaces that are done, and the others.
pub workspaces_on : (workspaces : List Workspace) (i : ℕ) (e : Workspace) (rest : List Workspace) → i < length workspaces
    → take (i + 1) (set workspaces i e) ++ rest ≡ take i workspaces ++ (e ∷ rest)
workspaces_on workspaces i e rest h =
    ap (λ (xs : List Workspace). xs ++ rest) (take_more_set workspaces i e h) ∙ append_assoc (take i workspaces) (e ∷ []) rest
