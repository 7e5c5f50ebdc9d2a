-- One step of a whole sweep: what is done with the slot that is open. Assumes nothing.
use Rattle.std.specs.Prelude.{◌≡◌, ℕ, ◌<◌, Bool, true, false, List, Ok, Err, Result}
use Rattle.field.specs.declared.hearing.Hearing.TheVariants.{Silence, Lone, Clash}
use Rattle.slot.specs.declared.listed.ListedSlot.{ListedSlot}
use Rattle.slot.specs.declared.counts.Counts.{Counts}
use Rattle.slot.specs.declared.kinds.Continuation.{Continuation}
use Rattle.slot.specs.declared.kinds.Unsplit.{Unsplit}
use Rattle.slot.specs.declared.kinds.Unsplit.TheVariants as unsplit
use Rattle.slot.specs.Calls.{Position, at_slot, at_continuation, at_unsplit, over}
use Rattle.sweep.specs.Tallies.{heard_as}

abbrev pub position_gone_on : Result Continuation Unsplit → Position
position_gone_on (Ok l) = at_continuation l
position_gone_on (Err u) = at_unsplit u

abbrev pub position_worked : Result Counts Unsplit → Position
position_worked (Ok counts) = over 0 counts
position_worked (Err u) = at_unsplit u

-- Whether an answer is a refusal.
abbrev pub is_refused : {X : Type 0} → Result X Unsplit → Bool
is_refused (Ok x) = false
is_refused (Err (unsplit.Refused d)) = true
is_refused (Err (unsplit.Stopped s)) = false

-- The counts are those of the listed slots.
pub record Tallied (counts : Counts) (rows : List ListedSlot) : Type 0 where
  pub lone : counts.lone ≡ heard_as Lone rows
  pub silent : counts.silent ≡ heard_as Silence rows
  pub clash : counts.clash ≡ heard_as Clash rows

-- Where a sweep goes on, it has sent more commands.
abbrev pub HasSent : ℕ → Position → Type 0
HasSent commands (at_slot phase progress) = commands < progress.counts.commands
HasSent commands (over number counts) = Unit {0}
