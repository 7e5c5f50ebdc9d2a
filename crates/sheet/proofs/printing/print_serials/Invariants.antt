use Rattle.std.proofs.Common.{drop}
use Rattle.sheet.specs.Sheets.{serial_lines}
use Rattle.sheet.proofs.Prints.{Leads}
use Rattle.sheet.proofs.printing.print_serials.Given as goal

abbrev pub invariant-loop-serial : goal.invariant-loop-serial
invariant-loop-serial g l =
    Leads g.P.Paper.room g.P.Paper.Shows (serial_lines l.serials) (serial_lines (drop l.serial-index l.serials)) l.initial.paper l.paper
