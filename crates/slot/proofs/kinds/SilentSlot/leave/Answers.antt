use Rattle.std.proofs.Common.{subst}
use Rattle.slot.specs.Calls.{setting, Position, position_after, ReachesPosition}
use Rattle.slot.proofs.Handing.{handed}
use Rattle.slot.proofs.kinds.SilentSlot.leave.Goals as goal

pub returns-in_err-close-clause-rule : goal.returns-in_err-close-clause-rule
returns-in_err-close-clause-rule g c coins p s =
    subst (λ (w : Position). ReachesPosition g.F.Field (setting coins c.args.self.progress.budget c.args.lists.now) p w c.args.field.now c.close.new.field c.args.lists.now)
    (handed position_after c.from_residual.result c.in_err-close.field-0.0 c.from_residual.ensures.1)
    (c.in_err-close.ensures.rule coins c.args.lists.now p s)

pub returns-then-progress-eq0-clause-rule : goal.returns-then-progress-eq0-clause-rule
returns-then-progress-eq0-clause-rule g c coins p s = c.in_ok-close.ensures.rule coins c.args.lists.now p s

pub returns-in_err-scroll-clause-rule : goal.returns-in_err-scroll-clause-rule
returns-in_err-scroll-clause-rule g c coins p s =
    subst (λ (w : Position). ReachesPosition g.F.Field (setting coins c.args.self.progress.budget c.args.lists.now) p w c.args.field.now c.scroll.new.field c.scroll.new.lists)
    (handed position_after c.from_residual-in_err-scroll.result c.in_err-scroll.field-0.0 c.from_residual-in_err-scroll.ensures.1)
    (c.in_err-scroll.ensures.rule coins p s)
