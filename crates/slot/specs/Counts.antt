-- Ends by their numbers, and counts. Assumes nothing.
use Rattle.std.specs.Prelude.{ℕ, ◌+◌, min, codes, List}
use Rattle.field.specs.declared.hearing.Hearing.{Hearing}
use Rattle.field.specs.declared.hearing.Hearing.TheVariants.{Silence, Lone, Clash}
use Rattle.slot.specs.declared.counts.Counts.{Counts}
use Rattle.slot.specs.declared.ending.Stop.{Stop}
use Rattle.slot.specs.declared.ending.Stop.TheVariants.{Deep, Spent, Full}
use Rattle.slot.specs.declared.ending.End.{End}
use Rattle.slot.specs.declared.ending.End.TheVariants.{Whole, Stopped}

abbrev pub stop_number : Stop → ℕ
stop_number Deep = 7
stop_number Spent = 8
stop_number Full = 9

abbrev pub end_number : End → ℕ
end_number Whole = 0
end_number (Stopped stop) = stop_number stop

abbrev pub stop_name : Stop → List ℕ
stop_name Deep = codes "deep"
stop_name Spent = codes "spent"
stop_name Full = codes "full"

-- One slot more in a count. It stays at 65,535, which a budget of at most so many commands never lets it pass.
abbrev pub one_more : ℕ → ℕ
one_more n = min (n + 1) 65535

-- The counts once one more command is sent.
abbrev pub with_command : Counts → Counts
with_command c = record c { commands = c.commands + 1 }

-- And once it has opened a slot.
abbrev pub with_slot : Hearing → Counts → Counts
with_slot Silence c = record c { silent = one_more c.silent; commands = c.commands + 1 }
with_slot Lone c = record c { lone = one_more c.lone; commands = c.commands + 1 }
with_slot Clash c = record c { clash = one_more c.clash; commands = c.commands + 1 }
