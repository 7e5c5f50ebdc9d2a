-- The reader's rule: how a sweep goes on, command by command, over a list of tags. Assumes nothing.
use Rattle.std.specs.Prelude.{ℕ, zero, suc, ◌+◌, ◌-◌, ◌%◌, if◌then◌else◌, nat_le, nat_eq}
use Rattle.std.specs.Prelude.{List, [], ◌∷◌, ◌++◌, length, slice_index}
use Rattle.protocol.specs.declared.command.Command.{Command}
use Rattle.protocol.specs.declared.command.Command.TheVariants.{Select, Query, Scroll}
use Rattle.frame.specs.Openings.{opening}
use Rattle.record.specs.declared.Tag.{Tag}
use Rattle.field.specs.declared.hearing.Hearing.{Hearing}
use Rattle.field.specs.declared.hearing.Hearing.TheVariants.{Silence, Lone, Clash}
use Rattle.field.specs.Airs.{Air, silent, MayHear, plain_hearing}
use Rattle.field.specs.Sends.{stepped_all, on_air}
use Rattle.slot.specs.declared.listed.ListedSlot.{ListedSlot}
use Rattle.slot.specs.Commands.{select, query, scroll, repeat, read, serial_in}

-- What a sweep is given: recorded rows of coins, a budget of commands, and for how many entries its lists have room.
pub record Setting : Type 0 where
  pub coins : List ℕ
  pub budget : ℕ
  pub slot_room : ℕ
  pub serial_room : ℕ

-- Where a sweep stands.
pub data Phase : Type 0 where
  -- nothing is sent yet
  fresh : Phase
  -- a silent slot is open, or a lone one has been read
  in_silence : Phase
  -- a lone slot is open, with the serial number that was heard
  in_lone : List ℕ → Phase
  in_clash : Phase
  -- the serial number is listed, and its READ not yet heard as lone
  in_reading : List ℕ → Phase
  -- by the end's number: 0 whole, and 7 to 9 stopped
  ended : ℕ → Phase

-- A sweep so far, with the tags that it sweeps.
pub record SweepState : Type 0 where
  pub phase : Phase
  -- how many groups wait: G
  pub waiting : ℕ
  -- the place of the row of coins to draw next
  pub next : ℕ
  pub commands : ℕ
  -- how many of the commands were READs
  pub reads : ℕ
  pub slots : List ListedSlot
  pub serials : List (List ℕ)
  pub tags : List Tag

-- A sweep that begins.
abbrev pub beginning : List Tag → SweepState
beginning tags =
    record { phase = fresh; waiting = 0; next = 0; commands = 0; reads = 0; slots = []; serials = []; tags = tags }

-- What a reader does next.
pub data Action : Type 0 where
  -- stops, by the stop's number
  stops : ℕ → Action
  -- sends a command that opens a slot: which, its frame, the row of coins that goes with it, G from now on, and the
  -- place of the row to draw next
  opens : Command → List ℕ → ℕ → ℕ → ℕ → Action
  -- lists a serial number
  lists : List ℕ → Action
  -- sends READ, with row 0
  reads : List ℕ → Action
  -- sends the closing REPEAT, with row 0
  closes : Action
  -- has ended
  rests : Action

-- The budget is looked at before every command, and the room for slots then before one that opens a slot.
abbrev pub budget_checked : Setting → SweepState → Action → Action
budget_checked set p action = if nat_le set.budget p.commands then stops 8 else action

abbrev pub room_checked : Setting → SweepState → Action → Action
room_checked set p action = budget_checked set p (if nat_le set.slot_room (length p.slots) then stops 9 else action)

-- The row of coins at a place. The rows are drawn in turn, and behind the last comes the first.
abbrev pub coins_at : List ℕ → ℕ → ℕ
coins_at coins place = slice_index coins (place % length coins)

abbrev pub place_behind : List ℕ → ℕ → ℕ
place_behind coins place = place % length coins + 1

abbrev pub action_in : Setting → SweepState → Phase → Action
action_in set p fresh = room_checked set p (opens Select select 0 0 0)
action_in set p in_silence =
    if nat_eq p.waiting 0 then budget_checked set p closes
    else room_checked set p (opens Scroll scroll 0 (p.waiting - 1) p.next)
action_in set p (in_lone serial) = if nat_le set.serial_room (length p.serials) then stops 9 else lists serial
action_in set p in_clash =
    if nat_eq p.waiting 255 then stops 7
    else room_checked set p
    (opens Query query (coins_at set.coins p.next) (p.waiting + 1) (place_behind set.coins p.next))
action_in set p (in_reading serial) = budget_checked set p (reads serial)
action_in set p (ended n) = rests

abbrev pub next_action : Setting → SweepState → Action
next_action set p = action_in set p p.phase

-- What is then on the air.
abbrev pub air_of : Action → List Tag → Air
air_of (stops n) tags = silent
air_of (opens c frame row g next) tags = on_air (opening frame) row tags
air_of (lists serial) tags = silent
air_of (reads serial) tags = on_air (opening (read serial)) 0 tags
air_of closes tags = on_air (opening repeat) 0 tags
air_of rests tags = silent

-- The phase that a slot opens with.
abbrev pub opened_by : Hearing → Air → Phase
opened_by Silence air = in_silence
opened_by Lone air = in_lone (serial_in Lone air)
opened_by Clash air = in_clash

-- A READ that is not heard as lone is sent again.
abbrev pub read_by : Hearing → List ℕ → Phase
read_by Silence serial = in_reading serial
read_by Lone serial = in_silence
read_by Clash serial = in_reading serial

-- The sweep once an action is done and something is heard.
abbrev pub after_action : Action → Hearing → SweepState → SweepState
after_action (stops n) h p = record p { phase = ended n }
after_action (opens c frame row g next) h p =
    record p {
      phase = opened_by h (on_air (opening frame) row p.tags);
      waiting = g;
      next = next;
      commands = p.commands + 1;
      slots = p.slots ++ record { command = c; hearing = h; waiting = g } ∷ [];
      tags = stepped_all (opening frame) row p.tags;
    }
after_action (lists serial) h p = record p { phase = in_reading serial; serials = p.serials ++ serial ∷ [] }
after_action (reads serial) h p =
    record p {
      phase = read_by h serial;
      commands = p.commands + 1;
      reads = p.reads + 1;
      tags = stepped_all (opening (read serial)) 0 p.tags;
    }
after_action closes h p = record p { phase = ended 0; commands = p.commands + 1; tags = stepped_all (opening repeat) 0 p.tags }
after_action rests h p = p

-- One action more.
unfoldable pub advanced : Setting → Hearing → SweepState → SweepState
advanced set h p = after_action (next_action set p) h p

-- What may be heard next, and what is heard where every lone reply is heard as lone.
unfoldable pub MayHearNext : Setting → SweepState → Hearing → Type 0
MayHearNext set p h = MayHear (air_of (next_action set p) p.tags) h

unfoldable pub next_plain_hearing : Setting → SweepState → Hearing
next_plain_hearing set p = plain_hearing (air_of (next_action set p) p.tags)

-- A sweep, action by action, as some hearings have it go on.
unfoldable pub run_by : Setting → List Hearing → SweepState → SweepState
run_by set [] p = p
run_by set (h ∷ hs) p = run_by set hs (advanced set h p)

-- The hearings are such as may come: only of a lone reply there is a choice.
unfoldable pub MayHearAll : Setting → List Hearing → SweepState → Type 0
MayHearAll set [] p = Unit {0}
MayHearAll set (h ∷ hs) p = MayHearNext set p h × MayHearAll set hs (advanced set h p)

-- So many actions where every lone reply is heard as lone: nothing is free.
unfoldable pub replayed : Setting → ℕ → SweepState → SweepState
replayed set zero p = p
replayed set (suc n) p = replayed set n (advanced set (next_plain_hearing set p) p)
