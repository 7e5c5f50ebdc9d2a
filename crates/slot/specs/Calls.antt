-- How the rule takes a sweep from one call to the next. Assumes nothing.
use Rattle.std.specs.Prelude.{◌≡◌, ℕ, ◌≤◌, Bool, ◌&&◌, List, ◌∷◌, [], ◌++◌, length, nat_le}
use Rattle.std.specs.Prelude.{Some, None, Ok, Err, Option, Result}
use Rattle.protocol.specs.Refusals.{number_of}
use Rattle.record.specs.declared.Tag.{Tag}
use Rattle.slice_vec.specs.Filling.{items_of, capacity_of, Behind}
use Rattle.field.specs.declared.field.Field.{Ghosts as Kind}
use Rattle.protocol.specs.declared.command.Command.{Command}
use Rattle.protocol.specs.declared.command.Command.TheVariants.{Scroll}
use Rattle.slot.specs.declared.listed.ListedSlot.{ListedSlot}
use Rattle.slot.specs.declared.counts.Counts.{Counts}
use Rattle.slot.specs.declared.ending.Stopped.{Stopped}
use Rattle.slot.specs.declared.kinds.Progress.{Progress}
use Rattle.slot.specs.declared.kinds.Slot.{Slot}
use Rattle.slot.specs.declared.kinds.ClashSlot.{ClashSlot}
use Rattle.slot.specs.declared.kinds.SilentSlot.{SilentSlot}
use Rattle.slot.specs.declared.kinds.LoneSlot.{LoneSlot}
use Rattle.slot.specs.declared.kinds.Continuation.{Continuation}
use Rattle.slot.specs.declared.kinds.Continuation.TheVariants as continuation
use Rattle.slot.specs.declared.kinds.Unsplit.{Unsplit}
use Rattle.slot.specs.declared.kinds.Unsplit.TheVariants as unsplit
use Rattle.slot.specs.declared.lists.Lists.{Lists}
use Rattle.slot.specs.Counts.{stop_number, with_slot, with_command}
use Rattle.slot.specs.Rules.{Setting, Phase, SweepState, beginning, in_silence, in_lone, in_clash, in_reading, ended}
use Rattle.slot.specs.Traces.{Reaches}
use Rattle.slot.specs.Slots.{heard_in, phase_of, progress_of, progress_with}

-- What a call is lent for a sweep.
abbrev pub setting : List ℕ → ℕ → Lists → Setting
setting coins budget lists =
    record { coins = coins; budget = budget; slot_room = capacity_of lists.slots; serial_room = capacity_of lists.serials }

-- Where a call leaves a sweep.
pub data Position : Type 0 where
  -- with a slot that is open
  at_slot : Phase → Progress → Position
  -- at its end, by the end's number
  over : ℕ → Counts → Position

-- The slots, as those who hold them see them.
abbrev pub at_silent : SilentSlot → Position
at_silent s = at_slot in_silence s.progress

abbrev pub at_lone : LoneSlot → Position
at_lone s = at_slot (in_lone s.serial) s.progress

abbrev pub at_clash : ClashSlot → Position
at_clash s = at_slot in_clash s.progress

-- A lone slot whose serial number is listed, and no READ yet heard as lone, once so much is counted.
abbrev pub at_unread : LoneSlot → Counts → Position
at_unread s counts = at_slot (in_reading s.serial) (progress_with s.progress.budget s.progress.waiting s.progress.next counts)

-- The serial number that was heard in a lone slot.
abbrev pub serial_heard : LoneSlot → List ℕ
serial_heard s = s.serial

abbrev pub budget_in : Position → ℕ
budget_in (at_slot phase progress) = progress.budget
budget_in (over number counts) = 0

-- What calls answer: any slot, a slot that is left, a stop, and a slot that is not split.
abbrev pub at_open_slot : Slot → Position
at_open_slot s = at_slot (phase_of s) (progress_of s)

abbrev pub at_continuation : Continuation → Position
at_continuation (continuation.Next s) = at_open_slot s
at_continuation (continuation.Whole counts) = over 0 counts

abbrev pub at_stop : Stopped → Position
at_stop s = over (stop_number s.stop) s.counts

abbrev pub at_unsplit : Unsplit → Position
at_unsplit (unsplit.Refused d) = at_clash d.given
at_unsplit (unsplit.Stopped s) = at_stop s

abbrev pub position_opened : Result Slot Stopped → Position
position_opened (Ok s) = at_open_slot s
position_opened (Err s) = at_stop s

abbrev pub position_split : Result Slot Unsplit → Position
position_split (Ok s) = at_open_slot s
position_split (Err u) = at_unsplit u

abbrev pub position_read : Result SilentSlot Stopped → Position
position_read (Ok s) = at_silent s
position_read (Err s) = at_stop s

abbrev pub position_after : Result Continuation Stopped → Position
position_after (Ok l) = at_continuation l
position_after (Err s) = at_stop s

abbrev pub position_closed : Result Counts Stopped → Position
position_closed (Ok counts) = over 0 counts
position_closed (Err s) = at_stop s

-- The state of a sweep as a slot, the lists and the field have it.
pub record IsAtSlot (at : Phase) (progress : Progress) (lists : Lists) (population : List Tag) (p : SweepState) : Type 0 where
  pub phase : p.phase ≡ at
  pub waiting : p.waiting ≡ progress.waiting
  pub next : p.next ≡ progress.next
  pub commands : p.commands ≡ progress.counts.commands
  pub slots : p.slots ≡ items_of lists.slots
  pub serials : p.serials ≡ items_of lists.serials
  pub tags : p.tags ≡ population

-- The end of a sweep.
pub record IsAtEnd (number : ℕ) (counts : Counts) (lists : Lists) (population : List Tag) (p : SweepState) : Type 0 where
  pub phase : p.phase ≡ ended number
  pub commands : p.commands ≡ counts.commands
  pub slots : p.slots ≡ items_of lists.slots
  pub serials : p.serials ≡ items_of lists.serials
  pub tags : p.tags ≡ population

abbrev pub IsAt : Position → Lists → List Tag → SweepState → Type 0
IsAt (at_slot phase progress) = IsAtSlot phase progress
IsAt (over number counts) = IsAtEnd number counts

-- A sweep that is led from one state to another, which is as a call tells, with the field before and after.
abbrev pub ReachesPosition : {F : Type 0} → Kind F → Setting → SweepState → Position → F → F → Lists → Type 0
ReachesPosition kind set p to field field_after lists_after =
    (q : SweepState) × Reaches kind set field field_after p q × IsAt to lists_after (kind.tags field_after) q

-- A call that begins a sweep.
abbrev pub Begins : {F : Type 0} → Kind F → Setting → Position → F → F → Lists → Type 0
Begins kind set to field field_after lists_after =
    ReachesPosition kind set (beginning (kind.tags field)) to field field_after lists_after

-- A call that goes on with a sweep, from each state at which it may stand so.
abbrev pub Continues : {F : Type 0} → Kind F → List ℕ → Position → Position → F → F → Lists → Lists → Type 0
Continues kind coins from to field field_after lists lists_after =
    (p : SweepState) → IsAt from lists (kind.tags field) p
    → ReachesPosition kind (setting coins (budget_in from) lists) p to field field_after lists_after

abbrev pub counts_in : Position → Counts
counts_in (at_slot phase progress) = progress.counts
counts_in (over number counts) = counts

-- A slot is counted as it opens, by what is heard then. Nothing else changes those counts.
abbrev pub counts_opened : {E : Type 0} → Counts → Result Slot E → Counts
counts_opened c (Ok s) = with_slot (heard_in s) c
counts_opened c (Err e) = c

abbrev pub counts_after : Counts → Result Continuation Stopped → Counts
counts_after c (Ok (continuation.Next s)) = with_slot (heard_in s) c
counts_after c (Ok (continuation.Whole n)) = with_command c
counts_after c (Err s) = c

abbrev pub counts_closed : Counts → Result Counts Stopped → Counts
counts_closed c (Ok n) = with_command c
counts_closed c (Err s) = c

-- READs are commands, and no slots.
abbrev pub counts_read : Counts → ℕ → Counts
counts_read c commands = record c { commands = commands }

-- A slot is listed as it opens.
abbrev pub listed_slot : Command → Slot → ListedSlot
listed_slot command s = record { command = command; hearing = heard_in s; waiting = (progress_of s).waiting }

abbrev pub slots_opened : {E : Type 0} → Command → List ListedSlot → Result Slot E → List ListedSlot
slots_opened command rows (Ok s) = rows ++ listed_slot command s ∷ []
slots_opened command rows (Err e) = rows

abbrev pub slots_after : List ListedSlot → Result Continuation Stopped → List ListedSlot
slots_after rows (Ok (continuation.Next s)) = rows ++ listed_slot Scroll s ∷ []
slots_after rows (Ok (continuation.Whole n)) = rows
slots_after rows (Err s) = rows

-- No slot and no command yet.
abbrev pub no_counts : Counts
no_counts = record { lone = 0; silent = 0; clash = 0; commands = 0 }

-- A slot that a call opens, or leaves open, keeps the sweep's budget and is within it.
abbrev pub IsWithin : ℕ → Position → Type 0
IsWithin budget (at_slot phase progress) = (progress.budget ≡ budget) × (progress.counts.commands ≤ budget)
IsWithin budget (over number counts) = Unit {0}

-- Both lists before and after a call.
pub record BothBehind (before after : Lists) : Type 0 where
  pub slots : Behind before.slots after.slots
  pub serials : Behind before.serials after.serials

-- From 1 to 64 recorded rows.
abbrev pub is_recorded : List ℕ → Bool
is_recorded coins = nat_le 1 (length coins) && nat_le (length coins) 64

abbrev pub split_refusal : Result Slot Unsplit → Option ℕ
split_refusal (Ok s) = None
split_refusal (Err (unsplit.Refused d)) = Some (number_of d.refusal)
split_refusal (Err (unsplit.Stopped s)) = None

-- A split that is refused hands its slot back, and changes nothing.
abbrev pub handed_back : {F : Type 0} → Result Slot Unsplit → ClashSlot → (before after : F) → Lists → Lists → Type 0
handed_back (Ok s) slot before after lists lists_after = Unit {0}
handed_back (Err (unsplit.Refused d)) slot before after lists lists_after =
    (d.given ≡ slot) × (after ≡ before) × (lists_after ≡ lists)
handed_back (Err (unsplit.Stopped s)) slot before after lists lists_after = Unit {0}
