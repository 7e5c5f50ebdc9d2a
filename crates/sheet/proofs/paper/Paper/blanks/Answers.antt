use Rattle.std.proofs.Common.{◌≡◌, ℕ, suc, ◌+◌, ◌-◌, ap, arith}
use Rattle.sheet.specs.Sheets.{blanks}
use Rattle.sheet.proofs.Prints.{leads_more, leads_end}
use Rattle.sheet.proofs.paper.Paper.blanks.Goals as goal

pub loop-preserved : goal.loop-preserved
loop-preserved g c =
    let count : ℕ = c.args.count in
    let place : ℕ = c.loop.counter in
    let less : count - place ≡ suc (count - (place + 1)) = omega arith in
    leads_more _ _ _ _ _ _ _ _ _ (ap blanks less) c.loop.invariant c.in_ok-put.ensures

pub returns : goal.returns
returns g c =
    let none : c.args.count - c.loop.counter ≡ 0 = omega arith in
    leads_end _ _ _ _ _ _ (ap blanks none) c.loop.invariant
