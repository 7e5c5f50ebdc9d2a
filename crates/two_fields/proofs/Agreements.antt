-- Two fields that begin alike agree as long as the run is fair. Assumes nothing.
use Rattle.std.proofs.Common.{◌≡◌, ℕ, ◌+◌, ◌≤◌, Bool, true, false, cond, List, [], ◌∷◌, map, length, Some, None, Ok, Err, Result, sym, refl, ap, ◌∙◌, ap₂, subst, arith}
use Rattle.std.proofs.lemmas.Bool.{true≢false}
use Rattle.std.specs.Prelude.{if◌then◌else◌, OnOk}
use Rattle.protocol.specs.declared.refusal.Refusal.{Refusal}
use Rattle.frame.specs.Openings.{opening}
use Rattle.record.specs.declared.Tag.{Tag}
use Rattle.field.specs.declared.field.Field.{Ghosts as Kind}
use Rattle.field.specs.Sends.{stepped_all, after_gap_all, tags_after_send}
use Rattle.slot.specs.Rules.{Setting, SweepState, beginning, ended, run_by}
use Rattle.sweep.specs.Effects.{tag_after_sweep, due_serials, EachOnce, SweepEffect}
use Rattle.sweep.specs.Tallies.{Balanced}
use Rattle.sweep.specs.Whole.{Outcome, Swept}
use Rattle.sweep.proofs.Balances.{ends_balanced}
use Rattle.sweep.proofs.Runs.{sweep_effects}
use Rattle.history.specs.declared.call.Call.{Call}
use Rattle.history.specs.declared.call.Call.TheVariants as call
use Rattle.history.specs.declared.workspace.Workspace.{Workspace}
use Rattle.history.specs.Histories.{HistoryEntry, History}
use Rattle.history.specs.Steps.{Step, send, gap, sweep, step_of, steps_of, CallOutcome, refused, heard, passed, swept, AfterStep}
use Rattle.history.specs.Runs.{Ran}
use Rattle.protocol.specs.Refusals.{refusal_in}
use Rattle.two_fields.specs.Laws.{IsOneCall, AreOneList, IsClean, IsFair, SameOutcomes, Agreed, Fair, AllAgreed, Law, BothRan}

-- What a clean sweep leaves and reports.
record Settled (before after : List Tag) (o : Outcome) : Type 0 where
  tags : after ≡ map tag_after_sweep before
  serials : EachOnce o.serials (due_serials before)
  slots : o.report.counts.lone + o.report.counts.silent ≡ o.report.counts.clash + 1

settled : {F : Type 0} (kind : Kind F) (set : Setting) (a b : F) (o : Outcome) → Swept kind set a b o → IsClean (kind.tags a) o
    → Settled (kind.tags a) (kind.tags b) o
settled kind set a b o s clean =
    let before : List Tag = kind.tags a in
    let p : SweepState = run_by set s.hearings (beginning before) in
    let at_end : p.phase ≡ ended 0 = s.by_rule.at_end ∙ ap ended clean.whole in
    let sweep_effect : SweepEffect before p = sweep_effects set s.hearings before (kind.sized a) clean.distinct s.heard at_end in
    let complete : Balanced p = ends_balanced set s.hearings before at_end in
    record {
      tags = s.by_rule.tags ∙ sweep_effect.tags;
      serials = subst (λ (l : List (List ℕ)). EachOnce l (due_serials before)) (sym s.by_rule.serials) sweep_effect.serials;
      slots = ap₂ (λ (m n : ℕ). m + n) s.by_rule.lone s.by_rule.silent ∙ complete.slots ∙ ap (λ (n : ℕ). n + 1) (sym s.by_rule.clash);
    }

-- A send by whether its buffer is too short.
by_room : {F : Type 0} (kind : Kind F) (frame : List ℕ) (row : ℕ) (a : F) (short b : Bool) → short ≡ b
    → cond short (kind.tags a) (stepped_all (opening frame) row (kind.tags a)) ≡ cond b (kind.tags a) (stepped_all (opening frame) row (kind.tags a))
by_room kind frame row a short b e = ap (λ (s : Bool). cond s (kind.tags a) (stepped_all (opening frame) row (kind.tags a))) e

-- Sends and gaps change the tags by what they are, and no sweep is among their answers.
sent_tags : {F : Type 0} (kind : Kind F) (frame : List ℕ) (row room : ℕ) (a b : F) (x : CallOutcome) → AfterStep kind (send frame row room) a x b
    → kind.tags b ≡ tags_after_send room frame row (kind.tags a)
sent_tags kind frame row room a b (refused e) h = ap kind.tags h.1.same ∙ sym (by_room kind frame row a _ true h.0)
sent_tags kind frame row room a b (heard x) h = h.1.tags ∙ sym (by_room kind frame row a _ false h.0)
sent_tags kind frame row room a b passed h = absurd h
sent_tags kind frame row room a b (swept o) h = absurd h

sent_sweeps : {F : Type 0} (kind : Kind F) (frame : List ℕ) (row room : ℕ) (a b : F) (tags : List Tag) (x y : CallOutcome)
    → AfterStep kind (send frame row room) a x b → SameOutcomes tags x y
sent_sweeps kind frame row room a b tags (refused e) y h = tt
sent_sweeps kind frame row room a b tags (heard x) y h = tt
sent_sweeps kind frame row room a b tags passed y h = absurd h
sent_sweeps kind frame row room a b tags (swept o) y h = absurd h

gap_tags : {F : Type 0} (kind : Kind F) (us : ℕ) (a b : F) (x : CallOutcome) → AfterStep kind (gap us) a x b → kind.tags b ≡ after_gap_all us (kind.tags a)
gap_tags kind us a b (refused e) h = absurd h
gap_tags kind us a b (heard x) h = absurd h
gap_tags kind us a b passed h = h.tags
gap_tags kind us a b (swept o) h = absurd h

gap_sweeps : {F : Type 0} (kind : Kind F) (us : ℕ) (a b : F) (tags : List Tag) (x y : CallOutcome) → AfterStep kind (gap us) a x b → SameOutcomes tags x y
gap_sweeps kind us a b tags (refused e) y h = absurd h
gap_sweeps kind us a b tags (heard x) y h = absurd h
gap_sweeps kind us a b tags passed y h = tt
gap_sweeps kind us a b tags (swept o) y h = absurd h

module _ {L R : Type 0} (on_left : Kind L) (on_right : Kind R) where
  -- Two clean sweeps of the same tags.
  both_settled : (tags : List Tag) (m : HistoryEntry L) (n : HistoryEntry R) (o p : Outcome) → m.outcome ≡ swept o → n.outcome ≡ swept p
      → Settled tags (on_left.tags m.field) o → Settled tags (on_right.tags n.field) p → Agreed on_left on_right tags m n
  both_settled tags m n o p e f s t =
      record {
        same = s.tags ∙ sym t.tags;
        sweeps = subst (λ (x : CallOutcome). SameOutcomes tags x n.outcome) (sym e)
            (subst (λ (y : CallOutcome). SameOutcomes tags (swept o) y) (sym f)
            (record {
              left = s.serials;
              right = t.serials;
              same = λ serial. s.serials.same serial ∙ sym (t.serials.same serial);
              left_slots = s.slots;
              right_slots = t.slots;
            }));
      }

  module _ (set other : Setting) (a : L) (b : R) (m : HistoryEntry L) (n : HistoryEntry R) (same : on_left.tags a ≡ on_right.tags b) where
    swept_both : (x y : CallOutcome) → m.outcome ≡ x → n.outcome ≡ y → AfterStep on_left (sweep set) a x m.field → AfterStep on_right (sweep other) b y n.field
        → IsFair (on_left.tags a) x (on_right.tags b) y → Agreed on_left on_right (on_left.tags a) m n
    swept_both (heard h) y e f after_step meet fair = absurd after_step
    swept_both passed y e f after_step meet fair = absurd after_step
    swept_both (refused c) (heard h) e f after_step meet fair = absurd meet
    swept_both (refused c) passed e f after_step meet fair = absurd meet
    swept_both (refused c) (refused d) e f after_step meet fair =
        record {
          same = ap on_left.tags after_step.2 ∙ same ∙ sym (ap on_right.tags meet.2);
          sweeps = subst (λ (x : CallOutcome). SameOutcomes (on_left.tags a) x n.outcome) (sym e) tt;
        }
    swept_both (refused c) (swept p) e f after_step meet fair = absurd fair
    swept_both (swept o) (heard h) e f after_step meet fair = absurd meet
    swept_both (swept o) passed e f after_step meet fair = absurd meet
    swept_both (swept o) (refused d) e f after_step meet fair = absurd fair
    swept_both (swept o) (swept p) e f after_step meet fair =
        both_settled (on_left.tags a) m n o p e f (settled on_left set a m.field o after_step.1 fair.0)
        (subst (λ (ts : List Tag). Settled ts (on_right.tags n.field) p) (sym same) (settled on_right other b n.field p meet.1 fair.1))

  -- One call.
  one : (s t : Step) (a : L) (b : R) (m : HistoryEntry L) (n : HistoryEntry R) → IsOneCall s t → on_left.tags a ≡ on_right.tags b
      → AfterStep on_left s a m.outcome m.field → AfterStep on_right t b n.outcome n.field → IsFair (on_left.tags a) m.outcome (on_right.tags b) n.outcome
      → Agreed on_left on_right (on_left.tags a) m n
  one (send frame row room) (send f r k) a b m n alike same after_step meet fair =
      record {
        same = sent_tags on_left frame row room a m.field m.outcome after_step ∙ ap (tags_after_send room frame row) same
            ∙ sym (sent_tags on_right frame row room b n.field n.outcome
            (subst (λ (x : ℕ). AfterStep on_right (send frame row x) b n.outcome n.field) alike.2
            (subst (λ (x : ℕ). AfterStep on_right (send frame x k) b n.outcome n.field) alike.1
            (subst (λ (x : List ℕ). AfterStep on_right (send x r k) b n.outcome n.field) alike.0 meet))));
        sweeps = sent_sweeps on_left frame row room a m.field (on_left.tags a) m.outcome n.outcome after_step;
      }
  one (send frame row room) (gap us) a b m n alike same after_step meet fair = absurd alike
  one (send frame row room) (sweep set) a b m n alike same after_step meet fair = absurd alike
  one (gap us) (send frame row room) a b m n alike same after_step meet fair = absurd alike
  one (gap us) (gap other) a b m n alike same after_step meet fair =
      record {
        same = gap_tags on_left us a m.field m.outcome after_step ∙ ap (after_gap_all us) same
            ∙ sym (gap_tags on_right us b n.field n.outcome (subst (λ (x : ℕ). AfterStep on_right (gap x) b n.outcome n.field) alike meet));
        sweeps = gap_sweeps on_left us a m.field (on_left.tags a) m.outcome n.outcome after_step;
      }
  one (gap us) (sweep set) a b m n alike same after_step meet fair = absurd alike
  one (sweep set) (send frame row room) a b m n alike same after_step meet fair = absurd alike
  one (sweep set) (gap us) a b m n alike same after_step meet fair = absurd alike
  one (sweep set) (sweep other) a b m n alike same after_step meet fair =
      swept_both set other a b m n same m.outcome n.outcome refl refl after_step meet fair

  -- All of them, of two fields with the same tags.
  all : (steps others : List Step) (left : L) (right : R) (ms : List (HistoryEntry L)) (ns : List (HistoryEntry R)) → AreOneList steps others
      → History on_left steps left ms → History on_right others right ns → on_left.tags left ≡ on_right.tags right
      → Fair on_left on_right left ms right ns → AllAgreed on_left on_right (on_left.tags left) ms ns
  unfolding AreOneList History Fair AllAgreed
  all [] [] left right [] [] alike h k same fair = tt
  all [] [] left right [] (n ∷ ns) alike h k same fair = absurd k
  all [] [] left right (m ∷ ms) ns alike h k same fair = absurd h
  all [] (t ∷ ts) left right ms ns alike h k same fair = absurd alike
  all (s ∷ ss) [] left right ms ns alike h k same fair = absurd alike
  all (s ∷ ss) (t ∷ ts) left right [] ns alike h k same fair = absurd h
  all (s ∷ ss) (t ∷ ts) left right (m ∷ ms) [] alike h k same fair = absurd k
  all (s ∷ ss) (t ∷ ts) left right (m ∷ ms) (n ∷ ns) alike h k same fair =
      let here : Agreed on_left on_right (on_left.tags left) m n = one s t left right m n alike.0 same h.0 k.0 fair.0 in
      (here, all ss ts m.field n.field ms ns alike.1 h.1 k.1 here.same fair.1)

  pub law : Law on_left on_right
  law left right steps others ms ns alike h k same fair = all steps others left right ms ns alike h k same fair

-- One call is one, whatever the workspaces on either side.
one_call : (c : Call) (d e : Workspace) → IsOneCall (step_of c d) (step_of c e)
one_call (call.Send frame row room) d e = (refl, refl, refl)
one_call (call.Gap us) d e = refl
one_call call.Sweep d e = tt

-- And so is a list of calls, where there are workspaces enough.
pub one_list : (calls : List Call) (ds es : List Workspace) → length calls ≤ length ds → length calls ≤ length es → AreOneList (steps_of calls ds) (steps_of calls es)
unfolding steps_of AreOneList
one_list [] ds es h k = tt
one_list (c ∷ cs) [] es h k = absurd (omega arith)
one_list (c ∷ cs) (d ∷ ds) [] h k = absurd (omega arith)
one_list (c ∷ cs) (d ∷ ds) (e ∷ es) h k = (one_call c d e, one_list cs ds es (omega arith) (omega arith))

-- A run with workspaces enough is not refused.
pub ran : (b : Bool) (r : Result (Unit {0}) Refusal) (P : Type 0) → b ≡ false → refusal_in r ≡ (if b then Some 5 else None) → OnOk r P → P
ran true r P enough e p = absurd (true≢false enough)
ran false (Ok x) P enough e p = p
ran false (Err x) P enough e p = cc

-- A run of each over one list of calls.
pub together : {L R : Type 0} (on_left : Kind L) (on_right : Kind R) (calls : List Call) (a b : L) (c d : R) (ds ds_after es es_after : List Workspace)
    → Ran on_left calls ds ds_after a b → Ran on_right calls es es_after c d → length calls ≤ length ds → length calls ≤ length es
    → BothRan on_left on_right calls a b c d ds ds_after es es_after
together on_left on_right calls a b c d ds ds_after es es_after r s few enough =
    record {
      left_run = r;
      right_run = s;
      agree = law on_left on_right a c (steps_of calls ds) (steps_of calls es) r.entries s.entries (one_list calls ds es few enough) r.history s.history;
    }
