-- Two fields, of any kinds, that begin alike and are given the same calls, whatever coins, budgets and lists each has for its
-- sweeps. Assumes nothing.
use Rattle.std.specs.Prelude.{◌≡◌, ℕ, ◌+◌, List, [], ◌∷◌}
use Rattle.record.specs.declared.Tag.{Tag}
use Rattle.field.specs.declared.field.Field.{Ghosts as Kind}
use Rattle.slot.specs.Counts.{end_number}
use Rattle.sweep.specs.Effects.{times, due_serials, Distinct, EachOnce}
use Rattle.sweep.specs.Whole.{Outcome}
use Rattle.history.specs.declared.call.Call.{Call}
use Rattle.history.specs.declared.workspace.Workspace.{Workspace}
use Rattle.history.specs.Histories.{HistoryEntry, History}
use Rattle.history.specs.Steps.{Step, send, gap, sweep, CallOutcome, refused, swept}
use Rattle.history.specs.Runs.{Ran}

-- Two steps that are one call: sends are equal, gaps are equal, and a sweep has coins, budget and lists of its own.
abbrev pub IsOneCall : Step → Step → Type 0
IsOneCall (send frame row room) (send f r n) = (f ≡ frame) × (r ≡ row) × (n ≡ room)
IsOneCall (gap microseconds) (gap us) = us ≡ microseconds
IsOneCall (sweep set) (sweep other) = Unit {0}
IsOneCall step other = ⊥

-- Two lists of steps that are one list of calls.
unfoldable pub AreOneList : List Step → List Step → Type 0
AreOneList [] [] = Unit {0}
AreOneList (s ∷ ss) (t ∷ ts) = IsOneCall s t × AreOneList ss ts
AreOneList ss ts = ⊥

-- A sweep that ends whole, of tags with no serial number twice as it began.
pub record IsClean (before : List Tag) (o : Outcome) : Type 0 where
  pub whole : end_number o.report.end ≡ 0
  pub distinct : Distinct before

-- A fair entry: a sweep is refused on both sides, or clean on both.
abbrev pub IsFair : List Tag → CallOutcome → List Tag → CallOutcome → Type 0
IsFair left (swept o) right (swept p) = IsClean left o × IsClean right p
IsFair left (swept o) right (refused e) = ⊥
IsFair left (refused e) right (swept p) = ⊥
IsFair left outcome right other = Unit {0}

-- Two whole sweeps of the same tags.
pub record SameSweeps (tags : List Tag) (o p : Outcome) : Type 0 where
  -- both report each serial number that is due, once, and no other
  pub left : EachOnce o.serials (due_serials tags)
  pub right : EachOnce p.serials (due_serials tags)
  -- so they report the same
  pub same : (serial : List ℕ) → times serial o.serials ≡ times serial p.serials
  -- each clash adds a group, and each lone or silent slot takes one away
  pub left_slots : o.report.counts.lone + o.report.counts.silent ≡ o.report.counts.clash + 1
  pub right_slots : p.report.counts.lone + p.report.counts.silent ≡ p.report.counts.clash + 1

abbrev pub SameOutcomes : List Tag → CallOutcome → CallOutcome → Type 0
SameOutcomes tags (swept o) (swept p) = SameSweeps tags o p
SameOutcomes tags outcome other = Unit {0}

module _ {L R : Type 0} (on_left : Kind L) (on_right : Kind R) where
  -- After a call both fields have the same tags, place by place and in every part.
  pub record Agreed (tags : List Tag) (m : HistoryEntry L) (n : HistoryEntry R) : Type 0 where
    pub same : on_left.tags m.field ≡ on_right.tags n.field
    pub sweeps : SameOutcomes tags m.outcome n.outcome

  -- Every entry of two histories is fair, by the tags that it begins with.
  unfoldable pub Fair : L → List (HistoryEntry L) → R → List (HistoryEntry R) → Type 0
  Fair left (m ∷ ms) right (n ∷ ns) = IsFair (on_left.tags left) m.outcome (on_right.tags right) n.outcome × Fair m.field ms n.field ns
  Fair left ms right ns = Unit {0}

  -- After every call both fields agree.
  unfoldable pub AllAgreed : List Tag → List (HistoryEntry L) → List (HistoryEntry R) → Type 0
  AllAgreed tags [] [] = Unit {0}
  AllAgreed tags (m ∷ ms) (n ∷ ns) = Agreed tags m n × AllAgreed (on_left.tags m.field) ms ns
  AllAgreed tags ms ns = ⊥

  -- What two histories come to, where the tags are equal as they begin and every entry is fair.
  abbrev pub Agree : L → List (HistoryEntry L) → R → List (HistoryEntry R) → Type 0
  Agree left ms right ns = on_left.tags left ≡ on_right.tags right → Fair left ms right ns → AllAgreed (on_left.tags left) ms ns

  -- The law of two fields of these kinds: any two histories over one list of calls.
  abbrev pub Law : Type 0
  Law =
      (left : L) (right : R) (steps others : List Step) (ms : List (HistoryEntry L)) (ns : List (HistoryEntry R)) → AreOneList steps others
      → History on_left steps left ms → History on_right others right ns → Agree left ms right ns

  -- One list of calls on both fields: a run of each, and what the law concludes of just these two.
  pub record BothRan (calls : List Call) (left left_after : L) (right right_after : R) (left_workspaces left_workspaces_after right_workspaces right_workspaces_after : List Workspace) : Type 0 where
    pub left_run : Ran on_left calls left_workspaces left_workspaces_after left left_after
    pub right_run : Ran on_right calls right_workspaces right_workspaces_after right right_after
    pub agree : Agree left left_run.entries right right_run.entries
