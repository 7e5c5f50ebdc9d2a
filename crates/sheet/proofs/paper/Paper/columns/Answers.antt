use Rattle.std.proofs.Common.{rules}
use Rattle.std.proofs.lemmas.List.{at_drop_more, at_drop_all}
use Rattle.sheet.specs.Sheets.{columns}
use Rattle.sheet.proofs.Prints.{leads_more, leads_full, leads_end}
use Rattle.sheet.proofs.paper.Paper.columns.Goals as goal

pub returns-in_err-column : goal.returns-in_err-column
unfolding columns
returns-in_err-column g c =
    let full = leads_full _ _ _ _ _ _ _ _ _ _
    (at_drop_more (columns c.args.width) c.args.numbers.now c.loop-number.number-index 0 c.loop-number-test.true)
    c.loop-number.invariant c.in_err-column.ensures in
    search rules

pub loop-number-preserved : goal.loop-number-preserved
unfolding columns
loop-number-preserved g c =
    leads_more _ _ _ _ _ _ _ _ _ (at_drop_more (columns c.args.width) c.args.numbers.now c.loop-number.number-index 0 c.loop-number-test.true)
    c.loop-number.invariant c.in_ok-column.ensures

pub returns : goal.returns
unfolding columns
returns g c =
    leads_end _ _ _ _ _ _ (at_drop_all (columns c.args.width) c.args.numbers.now c.loop-number.number-index c.loop-number-test.false)
    c.loop-number.invariant
