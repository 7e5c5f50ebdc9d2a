use Rattle.std.proofs.Common.{◌+◌, rules}
use Rattle.std.proofs.lemmas.List.{at_drop_more, at_drop_all}
use Rattle.sheet.specs.Sheets.{slot_lines}
use Rattle.sheet.proofs.Prints.{leads_more, leads_full, leads_end}
use Rattle.sheet.proofs.printing.print_slots.Goals as goal

pub returns-in_err-print_slot : goal.returns-in_err-print_slot
returns-in_err-print_slot g c =
    let full = leads_full _ _ _ _ _ _ _ _ _ _ (at_drop_more (slot_lines (c.loop-place.place + 1)) c.args.slots.now c.loop-place.place _ c.loop-place-test.true)
    c.loop-place.invariant c.in_err-print_slot.ensures in
    search rules

pub loop-place-preserved : goal.loop-place-preserved
loop-place-preserved g c =
    leads_more _ _ _ _ _ _ _ _ _ (at_drop_more (slot_lines (c.loop-place.place + 1)) c.args.slots.now c.loop-place.place _ c.loop-place-test.true)
    c.loop-place.invariant c.in_ok-print_slot.ensures

pub returns : goal.returns
returns g c =
    leads_end _ _ _ _ _ _ (at_drop_all (slot_lines (c.loop-place.place + 1)) c.args.slots.now c.loop-place.place c.loop-place-test.false)
    c.loop-place.invariant
