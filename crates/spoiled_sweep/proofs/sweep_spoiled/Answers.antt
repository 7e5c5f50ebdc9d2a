use Rattle.slot.specs.Calls.{setting}
use Rattle.spoiled_sweep.proofs.Spoiled.{period_kept, ends_early}
use Rattle.spoiled_sweep.proofs.sweep_spoiled.Goals as goal

pub returns-clause-period : goal.returns-clause-period
returns-clause-period g c =
    period_kept g.F.Field _ (λ s t frame row h p. p) (setting c.args.coins.now c.args.budget c.args.lists.now) c.args.spoiler.now c.sweep.new.field
    c.sweep.new.lists c.sweep.result _ c.sweep.ensures.rule c.sweep.ensures.same

pub returns-clause-never_whole : goal.returns-clause-never_whole
returns-clause-never_whole g c =
    ends_early g.F.Field _ (λ s t frame row h p. p) (setting c.args.coins.now c.args.budget c.args.lists.now) c.args.spoiler.now c.sweep.new.field
    c.sweep.new.lists c.sweep.result c.sweep.ensures.rule
