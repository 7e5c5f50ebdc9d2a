use Rattle.std.proofs.Common.{◌≡◌, ℕ, List}
use Rattle.slot.specs.declared.lists.Lists.{Lists}
use Rattle.slot.specs.Calls.{at_slot, Continues, counts_read}
use Rattle.slot.specs.Rules.{in_reading}
use Rattle.slot.proofs.kinds.Progress.read.Given as goal

abbrev pub invariant-loop-sent : goal.invariant-loop-sent
invariant-loop-sent g l = record {
  budget : l.progress.budget ≡ l.fn.self.budget;
  waiting : l.progress.waiting ≡ l.fn.self.waiting;
  next : l.progress.next ≡ l.fn.self.next;
  counts : l.progress.counts ≡ counts_read l.fn.self.counts l.progress.counts.commands;
  commands : l.progress.counts.commands ≡ l.sent;
  rule : (coins : List ℕ) (lists : Lists) → Continues g.F.Field coins (at_slot (in_reading l.serial) l.fn.self) (at_slot (in_reading l.serial) l.progress) l.initial.field l.field lists lists;
}
