-- A sweep of no tags, as a proposition over one listing. Assumes nothing.
use Rattle.std.specs.Prelude.{◌≡◌, ℕ, List, [], ◌∷◌}
use Rattle.std.specs.List.{AllByRecursion}
use Rattle.protocol.specs.declared.command.Command.TheVariants.{Select}
use Rattle.record.specs.declared.Tag.{Tag}
use Rattle.field.specs.declared.hearing.Hearing.{Hearing}
use Rattle.field.specs.declared.hearing.Hearing.TheVariants.{Silence}
use Rattle.slot.specs.declared.ending.End.TheVariants.{Whole}
use Rattle.slot.specs.declared.ending.Report.{Report}
use Rattle.slot.specs.declared.listed.ListedSlot.{ListedSlot}
use Rattle.slot.specs.Rules.{Setting, beginning, run_by, MayHearAll}
use Rattle.sweep.specs.Whole.{Outcome, Reported}

-- One recorded row, a budget of 2 and room for one slot.
abbrev pub narrow : ℕ → ℕ → Setting
narrow row serial_room = record { coins = row ∷ []; budget = 2; slot_room = 1; serial_room = serial_room }

-- Whatever the recorded row holds, and however much room the list of serial numbers has, such a sweep of no tags is
-- whole, with one silent slot and 2 commands.
unfoldable pub EmptySweeps : Type 0
EmptySweeps =
    AllByRecursion {X = Report × List ListedSlot}
    (λ x. (row serial_room : ℕ) (hs : List Hearing) (o : Outcome) (after : List Tag) → MayHearAll (narrow row serial_room) hs (beginning [])
    → Reported o after (run_by (narrow row serial_room) hs (beginning [])) → (o.report ≡ x.0) × (o.slots ≡ x.1))
    ((
      record { end = Whole; counts = record { lone = 0; silent = 1; clash = 0; commands = 2 } },
      record { command = Select; hearing = Silence; waiting = 0 } ∷ [],
    ) ∷ [])
