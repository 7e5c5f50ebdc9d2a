use Rattle.std.proofs.Common.{subst}
use Rattle.slot.specs.declared.kinds.Unsplit.TheVariants as unsplit
use Rattle.slot.specs.Calls.{setting, Position, position_split, ReachesPosition}
use Rattle.slot.proofs.Handing.{handed}
use Rattle.slot.proofs.Moves.{reaches_self}
use Rattle.slot.proofs.kinds.ClashSlot.split.Goals as goal

pub returns-then-not-is_recorded-clause-rule : goal.returns-then-not-is_recorded-clause-rule
returns-then-not-is_recorded-clause-rule g c p s =
    (p, reaches_self g.F.Field (setting c.args.coins.now c.args.self.progress.budget c.args.lists.now) c.args.field.now p, s)

pub returns-in_err-split-clause-rule : goal.returns-in_err-split-clause-rule
returns-in_err-split-clause-rule g c p s =
    subst (λ (w : Position). ReachesPosition g.F.Field (setting c.args.coins.now c.args.self.progress.budget c.args.lists.now) p w c.args.field.now c.split.new.field c.split.new.lists)
    (handed position_split c.from_residual.result (unsplit.Stopped c.in_err-split.field-0.0) c.from_residual.ensures.1)
    (c.in_err-split.ensures.rule p s)
