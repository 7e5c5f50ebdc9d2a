use Rattle.std.proofs.Common.{◌-◌}
use Rattle.sheet.specs.Sheets.{blanks}
use Rattle.sheet.proofs.Prints.{Leads}
use Rattle.sheet.proofs.paper.Paper.blanks.Given as goal

abbrev pub invariant-loop : goal.invariant-loop
invariant-loop g l = Leads g.Self.Paper.room g.Self.Paper.Shows (blanks l.count) (blanks (l.count - l.counter)) l.initial.self l.self
