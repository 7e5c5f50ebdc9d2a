-- What slots, answers and stops say, by numbers and in the words of the rule. Assumes nothing.
use Rattle.std.specs.Prelude.{◌≡◌, ℕ, if◌then◌else◌, not, ◌||◌, ◌∷◌, ◌++◌}
use Rattle.std.specs.Prelude.{List, [], Result, is_ok, IfOk, IfErr, OnErr, nat_le}
use Rattle.protocol.specs.declared.command.Command.{Command}
use Rattle.frame.specs.Openings.{opening}
use Rattle.slice_vec.specs.Filling.{items_of, is_full, Behind}
use Rattle.field.specs.declared.hearing.Hearing.{Hearing}
use Rattle.field.specs.declared.hearing.Hearing.TheVariants as hearing
use Rattle.field.specs.declared.field.Field.{Ghosts as Kind}
use Rattle.field.specs.Promises.{AfterSend}
use Rattle.field.specs.Sends.{on_air}
use Rattle.slot.specs.declared.counts.Counts.{Counts}
use Rattle.slot.specs.declared.ending.Stopped.{Stopped}
use Rattle.slot.specs.declared.kinds.Progress.{Progress}
use Rattle.slot.specs.declared.kinds.Slot.{Slot}
use Rattle.slot.specs.declared.kinds.Slot.TheVariants as slot
use Rattle.slot.specs.declared.lists.Lists.{Lists}
use Rattle.slot.specs.Counts.{stop_number, with_slot}
use Rattle.slot.specs.Rules.{Phase, in_silence, in_lone, in_clash, opened_by}

-- The hearing that a slot opened with.
abbrev pub heard_in : Slot → Hearing
heard_in (slot.Silent s) = hearing.Silence
heard_in (slot.Lone s) = hearing.Lone
heard_in (slot.Clash s) = hearing.Clash

abbrev pub phase_of : Slot → Phase
phase_of (slot.Silent s) = in_silence
phase_of (slot.Lone s) = in_lone s.serial
phase_of (slot.Clash s) = in_clash

abbrev pub progress_of : Slot → Progress
progress_of (slot.Silent s) = s.progress
progress_of (slot.Lone s) = s.progress
progress_of (slot.Clash s) = s.progress

-- The phase of a slot by what was heard, and the serial number then.
abbrev pub phase_with : Hearing → List ℕ → Phase
phase_with hearing.Silence serial = in_silence
phase_with hearing.Lone serial = in_lone serial
phase_with hearing.Clash serial = in_clash

-- Where a sweep stands once a slot is opened.
abbrev pub progress_with : ℕ → ℕ → ℕ → Counts → Progress
progress_with budget waiting next counts = record { budget = budget; waiting = waiting; next = next; counts = counts }

-- What opening a slot does where nothing stops it.
pub record Opened {F : Type 0} (kind : Kind F) (command : Command) (frame : List ℕ) (row : ℕ) (from : Progress)
    (before after : Lists) (field field_after : F) (opened : Slot) : Type 0 where
  pub sent : AfterSend kind frame row (heard_in opened) field field_after
  pub phase : phase_of opened ≡ opened_by (heard_in opened) (on_air (opening frame) row (kind.tags field))
  pub progress : progress_of opened ≡ progress_with from.budget from.waiting from.next (with_slot (heard_in opened) from.counts)
  pub slots : items_of after.slots
      ≡ items_of before.slots ++ record { command = command; hearing = heard_in opened; waiting = from.waiting } ∷ []
  pub behind : Behind before.slots after.slots
  pub serials : after.serials ≡ before.serials

-- What comes of a command that is to open a slot. With the budget spent, or else with the list of slots full, the sweep
-- stops, and nothing has changed.
pub record MayOpen {F : Type 0} (kind : Kind F) (command : Command) (frame : List ℕ) (row : ℕ) (from : Progress)
    (before after : Lists) (field field_after : F) (answer : Result Slot Stopped) : Type 0 where
  pub opens : is_ok answer ≡ not (nat_le from.budget from.counts.commands || is_full before.slots)
  pub opened : IfOk answer (λ s. Opened kind command frame row from before after field field_after s)
  pub stop : IfErr answer (λ s. stop_number s.stop ≡ (if nat_le from.budget from.counts.commands then 8 else 9))
  pub counts : IfErr answer (λ s. s.counts ≡ from.counts)
  pub same : OnErr answer ((field_after ≡ field) × (after ≡ before))
