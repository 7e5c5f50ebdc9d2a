use Rattle.std.proofs.Common.{◌<◌, arith}
use Rattle.composite_fields.proofs.spoiler.Spoiler.counted.Goals as goal

pub overflow_add-next : goal.overflow_add-next
overflow_add-next g c = let below : c.args.self.now.heard < c.args.self.now.period = c.args.self.now.counting in record { fits = omega arith }
