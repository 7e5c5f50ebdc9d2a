use Rattle.std.proofs.Common.{rules}
use Rattle.record.proofs.Places.{stored_none, stored_more}
use Rattle.record.proofs.Tag.store.Goals as goal

pub loop-place-init : goal.loop-place-init
loop-place-init c = search (rules, stored_none)

pub loop-place-preserved : goal.loop-place-preserved
loop-place-preserved c = search (rules, stored_more)
