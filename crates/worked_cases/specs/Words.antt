-- Words of the worked cases, by the second implementation, which wrote this file. Assumes nothing.
use Prim.Native.String.{String}
use Rattle.std.specs.Prelude.{ℕ, ◌+◌, ◌*◌, ◌-◌, Bool, true, false, if◌then◌else◌, List, [], ◌∷◌, ◌++◌, map, replicate}
use Rattle.std.specs.Prelude.{Some, None, codes, Option, ◌==◌, nat_lt, length, take, drop}
use Rattle.std.specs.List.{list_any, range_with_len}
use Rattle.protocol.specs.declared.command.Command.{Command}
use Rattle.record.specs.declared.State.{State}
use Rattle.record.specs.declared.WriteMark.{WriteMark}
use Rattle.record.specs.declared.WriteMark.TheVariants.{Clear, Fresh}
use Rattle.record.specs.declared.Tag.{Tag}
use Rattle.field.specs.declared.hearing.Hearing.{Hearing}
use Rattle.slot.specs.declared.listed.ListedSlot.{ListedSlot}
use Rattle.slot.specs.declared.ending.End.{End}
use Rattle.slot.specs.declared.ending.Report.{Report}

-- The bytes that a text spells, each by two hexadecimal digits, of which the letters are capitals.
abbrev pub digit : ℕ → ℕ
digit code = if nat_lt code 58 then code - 48 else code - 55

abbrev pub pairs : List ℕ → List ℕ
pairs (high ∷ low ∷ rest) = (digit high * 16 + digit low) ∷ pairs rest
pairs _ = []

abbrev pub bytes : String → List ℕ
bytes text = pairs (codes text)

-- A buffer of so many bytes that something else lies in.
abbrev pub used : ℕ → List ℕ
used room = replicate room 0xa5

-- A memory of the bytes 40 to 77, no two alike.
abbrev pub plain : List ℕ
plain = range_with_len 0x40 56

-- That memory with some bytes in the place of its own at an address.
abbrev pub plain_but : ℕ → String → List ℕ
plain_but address text = take address plain ++ bytes text ++ drop (address + length (bytes text)) plain

-- The locks of which those at some addresses are set.
abbrev pub locked_in : List ℕ → List Bool
locked_in addresses = map (λ a. list_any (λ b. b == a) addresses) (range_with_len 0 56)

-- Those of a new tag.
abbrev pub first_two : List Bool
first_two = locked_in (0x00 ∷ 0x01 ∷ [])

-- A record by its parts in their order.
abbrev pub tag_with : List ℕ → List Bool → State → Bool → ℕ → WriteMark → Option ℕ → Tag
tag_with memory locks state identified counter mark permission =
    record {
      memory = memory;
      locks = locks;
      state = state;
      identified = identified;
      counter = counter;
      mark = mark;
      permission = permission;
    }

-- A record with the plain memory and the locks of a new tag, by its other parts.
abbrev pub tag_of : State → Bool → ℕ → WriteMark → Option ℕ → Tag
tag_of = tag_with plain first_two

-- One of which nothing else is set but a state and a counter, and the same with its ID flag set.
abbrev pub tag_in : State → ℕ → Tag
tag_in state counter = tag_of state false counter Clear None

abbrev pub flagged_in : State → ℕ → Tag
flagged_in state counter = tag_of state true counter Clear None

-- One of which nothing is clear.
abbrev pub busy : State → Tag
busy state = tag_of state true 0xff Fresh (Some 0x37)

-- A tag with its ID flag set.
abbrev pub flagged : Tag → Tag
flagged tag = record tag { identified = true }

-- A tag of which the byte at an address is locked, and no other.
abbrev pub only_locked : ℕ → Tag → Tag
only_locked address tag = record tag { locks = locked_in (address ∷ []) }

-- A new tag of which only the serial number's last byte is not 00, put into some state, with some counter.
abbrev pub numbered : ℕ → State → ℕ → Tag
numbered n state counter =
    tag_with (replicate 7 0x00 ++ n ∷ replicate 48 0x00) first_two state false counter Clear None

-- So many of them, numbered on from this one.
abbrev pub numbered_from : ℕ → ℕ → State → ℕ → List Tag
numbered_from first count state counter = map (λ n. numbered n state counter) (range_with_len first count)

-- A tag whose serial number matches the SELECT of a sweep and ends with this byte, with 00 behind it: in some state,
-- with or without its ID flag, with some counter.
abbrev pub carrier : ℕ → State → Bool → ℕ → Tag
carrier n state identified counter =
    tag_with (0xef ∷ 0x04 ∷ replicate 5 0x00 ++ n ∷ replicate 48 0x00) first_two state identified counter Clear None

-- So many of them, numbered on from this one.
abbrev pub carriers_from : ℕ → ℕ → State → Bool → ℕ → List Tag
carriers_from first count state identified counter =
    map (λ n. carrier n state identified counter) (range_with_len first count)

-- The row of a slot: the command that opened it, what was heard, and how many groups wait.
abbrev pub slot_row : Command × Hearing × ℕ → ListedSlot
slot_row (command, hearing, waiting) = record { command = command; hearing = hearing; waiting = waiting }

-- The end, then lone, silent and clash slots, and commands.
abbrev pub report_of : End → ℕ → ℕ → ℕ → ℕ → Report
report_of end lone silent clash commands =
    record { end = end; counts = record { lone = lone; silent = silent; clash = clash; commands = commands } }
