use Rattle.std.proofs.Common.{length, le-ltb}
use Rattle.std.specs.Prelude.{nat_lt}
use Rattle.two_fields.proofs.Agreements.{ran}
use Rattle.two_fields.proofs.running.run_on.Goals as goal

pub returns : goal.returns
returns g c =
    ran (nat_lt (length c.args.workspaces.now) (length c.args.calls.now)) c.run.result _ (le-ltb (length c.args.workspaces.now) (length c.args.calls.now) c.requires)
    c.run.ensures.refusal c.run.ensures.run
