use Rattle.std.proofs.Common.{rules}
use Rattle.two_fields.proofs.Agreements.{together}
use Rattle.two_fields.proofs.running.run_both.Goals as goal

pub returns : goal.returns
returns g c = search (rules, together)
