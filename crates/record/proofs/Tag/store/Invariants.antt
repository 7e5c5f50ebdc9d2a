use Rattle.std.proofs.Common.{◌≡◌}
use Rattle.record.specs.Masks.{stored}
use Rattle.record.proofs.Tag.store.Given as goal

abbrev pub invariant-loop-place : goal.invariant-loop-place
invariant-loop-place l =
    l.self ≡ record l.initial.self { memory = stored l.address l.mask l.bytes l.initial.self.memory l.place }
