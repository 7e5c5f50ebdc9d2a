-- What the call that sweeps a field says of its outcome. Assumes nothing.
use Rattle.std.specs.Prelude.{◌≡◌, ℕ, ◌+◌, ◌≤◌, ◌⊎◌, Bool, List, map, length, IsTrue}
use Rattle.record.specs.declared.Tag.{Tag}
use Rattle.slice_vec.specs.Filling.{items_of}
use Rattle.field.specs.declared.field.Field.{Ghosts as Kind}
use Rattle.field.specs.declared.hearing.Hearing.{Hearing}
use Rattle.field.specs.declared.hearing.Hearing.TheVariants.{Silence, Lone, Clash}
use Rattle.slot.specs.declared.listed.ListedSlot.{ListedSlot}
use Rattle.slot.specs.declared.ending.Report.{Report}
use Rattle.slot.specs.declared.lists.Lists.{Lists}
use Rattle.slot.specs.Counts.{end_number}
use Rattle.slot.specs.Rules.{Setting, SweepState, beginning, ended, run_by, MayHearAll, replayed}
use Rattle.slot.specs.Traces.{FieldFollows}
use Rattle.sweep.specs.Effects.{tag_after_sweep, due_serials, Distinct, EachOnce}
use Rattle.sweep.specs.Tallies.{heard_as, enough}

-- What a sweep has reported.
pub record Outcome : Type 0 where
  pub report : Report
  pub slots : List ListedSlot
  pub serials : List (List ℕ)

-- By its report and its lists.
abbrev pub outcome_of : Report → Lists → Outcome
outcome_of report lists = record { report = report; slots = items_of lists.slots; serials = items_of lists.serials }

-- The outcome, and the tags that are left, are those of a sweep that has ended by the rule.
pub record Reported (o : Outcome) (after : List Tag) (p : SweepState) : Type 0 where
  pub at_end : p.phase ≡ ended (end_number o.report.end)
  pub commands : o.report.counts.commands ≡ p.commands
  pub lone : o.report.counts.lone ≡ heard_as Lone p.slots
  pub silent : o.report.counts.silent ≡ heard_as Silence p.slots
  pub clash : o.report.counts.clash ≡ heard_as Clash p.slots
  pub slots : o.slots ≡ p.slots
  pub serials : o.serials ≡ p.serials
  pub tags : after ≡ p.tags

-- A sweep of a field: one run by the rule, with hearings of which only those of lone replies are free, and with the
-- field going along. Where every lone reply is heard as lone, nothing is free: it is what replaying the rule gives.
pub record Swept {F : Type 0} (kind : Kind F) (set : Setting) (before after : F) (o : Outcome) : Type 0 where
  pub hearings : List Hearing
  pub heard : MayHearAll set hearings (beginning (kind.tags before))
  pub by_rule : Reported o (kind.tags after) (run_by set hearings (beginning (kind.tags before)))
  pub field : FieldFollows kind set hearings (beginning (kind.tags before)) before after
  pub plain : IsTrue (kind.faithful before) → Reported o (kind.tags after) (replayed set (enough set) (beginning (kind.tags before)))
  -- in a whole sweep the commands are slots, READs and one
  pub commands : end_number o.report.end ≡ 0
      → o.report.counts.commands ≡ length o.slots + (run_by set hearings (beginning (kind.tags before))).reads + 1

-- A whole sweep.
pub record Complete (faithful : Bool) (before after : List Tag) (o : Outcome) : Type 0 where
  -- each clash adds a group, and each lone or silent slot takes one away
  pub slots : o.report.counts.lone + o.report.counts.silent ≡ o.report.counts.clash + 1
  -- where lone replies are heard as lone, the commands are the slots, one READ for each lone one, and one
  pub commands : IsTrue faithful → o.report.counts.commands ≡ length o.slots + o.report.counts.lone + 1
  -- what is left and reported hangs on no coin and on no hearing, where no serial number is there twice
  pub tags : Distinct before → after ≡ map tag_after_sweep before
  pub serials : Distinct before → EachOnce o.serials (due_serials before)

-- What holds of every sweep.
pub record Lawful (faithful : Bool) (set : Setting) (before after : List Tag) (o : Outcome) : Type 0 where
  pub budget : o.report.counts.commands ≤ set.budget
  pub slots : o.report.counts.lone + o.report.counts.silent + o.report.counts.clash ≡ length o.slots
  pub spent : end_number o.report.end ≡ 8 → o.report.counts.commands ≡ set.budget
  pub full : end_number o.report.end ≡ 9 → (length o.slots ≡ set.slot_room) ⊎ (length o.serials ≡ set.serial_room)
  pub whole : end_number o.report.end ≡ 0 → Complete faithful before after o
