use Rattle.frame.specs.Openings.{Opening, opening_of}
use Rattle.tag.proofs.Accounts.{accounted}
use Rattle.tag.proofs.Effects.{flagged, permitted, remarked}
use Rattle.tag.proofs.Limits.{full_counters, replied_residual}
use Rattle.tag.proofs.laws.Goals as goal

pub returns : goal.returns
returns c =
    let frame : Opening = opening_of c.args.opened.now in
    record {
      memory = accounted frame c.args.coin c.args.tag.now c.lengths.ensures.memory c.lengths.ensures.locks;
      flag = flagged frame c.args.coin c.args.tag.now;
      permission = permitted frame c.args.coin c.args.tag.now;
      mark = remarked frame c.args.coin c.args.tag.now;
      residue = replied_residual frame c.args.coin c.args.tag.now;
      counters = full_counters;
    }
