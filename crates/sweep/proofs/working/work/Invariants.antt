use Rattle.std.proofs.Common.{◌≡◌, ◌≤◌, ◌-◌}
use Rattle.slice_vec.specs.Filling.{items_of}
use Rattle.slot.specs.Calls.{setting, at_slot, Begins, BothBehind}
use Rattle.slot.specs.Slots.{phase_of, progress_of}
use Rattle.sweep.specs.Working.{Tallied}
use Rattle.sweep.proofs.working.work.Given as goal

abbrev pub invariant-loop-next : goal.invariant-loop-next
invariant-loop-next g l = record {
  rule : Begins g.F.Field (setting l.fn.coins l.fn.budget l.fn.lists) (at_slot (phase_of l.slot) (progress_of l.slot)) l.fn.field l.field l.lists;
  behind : BothBehind l.fn.lists l.lists;
  same : (progress_of l.slot).budget ≡ l.fn.budget;
  within : (progress_of l.slot).counts.commands ≤ l.fn.budget;
  tally : Tallied (progress_of l.slot).counts (items_of l.lists.slots);
}

abbrev pub decreases-loop-next : goal.decreases-loop-next
decreases-loop-next g l = l.fn.budget - (progress_of l.slot).counts.commands
