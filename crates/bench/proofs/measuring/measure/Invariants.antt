use Rattle.std.proofs.Common.{take}
use Rattle.field.specs.Sends.{Sized}
use Rattle.bench.proofs.measuring.measure.Given as goal

abbrev pub invariant-loop-tag : goal.invariant-loop-tag
invariant-loop-tag l = Sized (take l.tag-index l.table)
