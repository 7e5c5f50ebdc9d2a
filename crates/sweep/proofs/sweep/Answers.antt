use Rattle.std.proofs.Common.{Err, sym, subst}
use Rattle.slice_vec.specs.Filling.{items_of}
use Rattle.slot.specs.declared.ending.End.TheVariants as end
use Rattle.slot.specs.declared.ending.Report.{Report}
use Rattle.slot.specs.declared.kinds.Unsplit.{Unsplit}
use Rattle.slot.specs.Calls.{setting, counts_in}
use Rattle.sweep.specs.Whole.{outcome_of, Swept}
use Rattle.sweep.specs.Working.{position_worked, Tallied}
use Rattle.sweep.proofs.Walks.{Come}
use Rattle.sweep.proofs.Outcomes.{swept_by, lawful}
use Rattle.sweep.proofs.sweep.Goals as goal

pub returns-in-Ok-clause-rule : goal.returns-in-Ok-clause-rule
returns-in-Ok-clause-rule g c =
    swept_by g.F.Field c.args.coins.now c.args.budget c.args.lists.now c.args.field.now (record { end = end.Whole; counts = c.in-Ok.counts }) c.work.new.lists
    c.work.new.field c.in-Ok.ensures.rule c.in-Ok.ensures.tally

pub returns-in-Ok-clause-laws : goal.returns-in-Ok-clause-laws
returns-in-Ok-clause-laws g c =
    lawful g.F.Field (setting c.args.coins.now c.args.budget c.args.lists.now) c.args.field.now c.work.new.field
    (outcome_of (record { end = end.Whole; counts = c.in-Ok.counts }) c.work.new.lists) (returns-in-Ok-clause-rule g c)

pub returns-in-Err-Stopped-clause-rule : goal.returns-in-Err-Stopped-clause-rule
returns-in-Err-Stopped-clause-rule g c =
    subst (λ (r : Report). Swept g.F.Field (setting c.args.coins.now c.args.budget c.args.lists.now) c.args.field.now c.work.new.field (outcome_of r c.work.new.lists))
    (sym c.from.ensures)
    (swept_by g.F.Field c.args.coins.now c.args.budget c.args.lists.now c.args.field.now
    (record { end = end.Stopped c.in-Err-Stopped.stopped.stop; counts = c.in-Err-Stopped.stopped.counts }) c.work.new.lists c.work.new.field
    (subst (λ (u : Unsplit). Come g.F.Field c.args.coins.now c.args.budget c.args.lists.now c.args.field.now (position_worked (Err u)) c.work.new.field c.work.new.lists)
    c.in-Err-Stopped.field-0-is c.in-Err-Stopped.ensures.rule)
    (subst (λ (u : Unsplit). Tallied (counts_in (position_worked (Err u))) (items_of c.work.new.lists.slots)) c.in-Err-Stopped.field-0-is c.in-Err-Stopped.ensures.tally))

pub returns-in-Err-Stopped-clause-laws : goal.returns-in-Err-Stopped-clause-laws
returns-in-Err-Stopped-clause-laws g c =
    lawful g.F.Field (setting c.args.coins.now c.args.budget c.args.lists.now) c.args.field.now c.work.new.field (outcome_of c.from.result c.work.new.lists)
    (returns-in-Err-Stopped-clause-rule g c)
