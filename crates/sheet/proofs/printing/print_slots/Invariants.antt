use Rattle.std.proofs.Common.{◌+◌, drop}
use Rattle.sheet.specs.Sheets.{slot_lines}
use Rattle.sheet.proofs.Prints.{Leads}
use Rattle.sheet.proofs.printing.print_slots.Given as goal

abbrev pub invariant-loop-place : goal.invariant-loop-place
invariant-loop-place g l =
    Leads g.P.Paper.room g.P.Paper.Shows (slot_lines 1 l.slots) (slot_lines (l.place + 1) (drop l.place l.slots)) l.initial.paper l.paper
