use Rattle.std.proofs.Common.{rules, []}
use Rattle.std.proofs.lemmas.List.{at_drop_more, at_drop_all}
use Rattle.sheet.specs.Sheets.{serial_lines}
use Rattle.sheet.proofs.Prints.{leads_more, leads_full, leads_end}
use Rattle.sheet.proofs.printing.print_serials.Goals as goal

pub returns-in_err-print_serial : goal.returns-in_err-print_serial
returns-in_err-print_serial g c =
    let full = leads_full _ _ _ _ _ _ _ _ _ _ (at_drop_more serial_lines c.args.serials.now c.loop-serial.serial-index [] c.loop-serial-test.true)
    c.loop-serial.invariant c.in_err-print_serial.ensures in
    search rules

pub loop-serial-preserved : goal.loop-serial-preserved
loop-serial-preserved g c =
    leads_more _ _ _ _ _ _ _ _ _ (at_drop_more serial_lines c.args.serials.now c.loop-serial.serial-index [] c.loop-serial-test.true)
    c.loop-serial.invariant c.in_ok-print_serial.ensures

pub returns : goal.returns
returns g c =
    leads_end _ _ _ _ _ _ (at_drop_all serial_lines c.args.serials.now c.loop-serial.serial-index c.loop-serial-test.false) c.loop-serial.invariant
