use Rattle.std.proofs.Common.{drop}
use Rattle.sheet.specs.Sheets.{columns}
use Rattle.sheet.proofs.Prints.{Leads}
use Rattle.sheet.proofs.paper.Paper.columns.Given as goal

abbrev pub invariant-loop-number : goal.invariant-loop-number
invariant-loop-number g l =
    Leads g.Self.Paper.room g.Self.Paper.Shows (columns l.width l.numbers) (columns l.width (drop l.number-index l.numbers)) l.initial.self l.self
