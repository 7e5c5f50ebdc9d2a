-- The fourteen commands and their parameters: codes, names, the order, sizes, and the length of a frame. Assumes nothing.
use Rattle.std.specs.Prelude.{ℕ, ◌+◌, List, [], ◌∷◌, codes, find, Option, ◌==◌}
use Rattle.protocol.specs.declared.command.Command.{Command}
use Rattle.protocol.specs.declared.command.Command.TheVariants.{Select, UnselectNe, UnselectIdFlag, UnselectNoidFlag, Query, Scroll, Repeat, Reset, Read, Verify, Lock, Qlock, ReadFlexible, Write}
use Rattle.protocol.specs.declared.command.Parameter.{Parameter}
use Rattle.protocol.specs.declared.command.Parameter.TheVariants.{Serial, Address, Mask, Word, Data, Length, Ignored}
use Rattle.protocol.specs.declared.command.Entry.{Entry}

-- A command by its code, its name, and the parameters behind the code, in their order.
pub record Form : Type 0 where
  pub code : ℕ
  pub name : List ℕ
  pub parameters : List Parameter

abbrev pub form_of : Command → Form
form_of Select = record { code = 0x00; name = codes "SELECT"; parameters = Address ∷ Mask ∷ Word ∷ [] }
form_of UnselectNe = record { code = 0x05; name = codes "UNSELECT_NE"; parameters = Address ∷ Mask ∷ Word ∷ [] }
form_of UnselectIdFlag = record { code = 0x19; name = codes "UNSELECT_ID_FLAG"; parameters = Ignored ∷ [] }
form_of UnselectNoidFlag = record { code = 0x1a; name = codes "UNSELECT_NOID_FLAG"; parameters = Ignored ∷ [] }
form_of Query = record { code = 0x08; name = codes "QUERY"; parameters = [] }
form_of Scroll = record { code = 0x09; name = codes "SCROLL"; parameters = [] }
form_of Repeat = record { code = 0x15; name = codes "REPEAT"; parameters = [] }
form_of Reset = record { code = 0x0a; name = codes "RESET"; parameters = [] }
form_of Read = record { code = 0x0c; name = codes "READ"; parameters = Serial ∷ Address ∷ [] }
form_of Verify = record { code = 0x1d; name = codes "VERIFY"; parameters = Serial ∷ Address ∷ [] }
form_of Lock = record { code = 0x0f; name = codes "LOCK"; parameters = Serial ∷ Address ∷ [] }
form_of Qlock = record { code = 0x11; name = codes "QLOCK"; parameters = Serial ∷ Address ∷ [] }
form_of ReadFlexible =
    record { code = 0x51; name = codes "READ_FLEXIBLE"; parameters = Serial ∷ Address ∷ Length ∷ [] }
form_of Write = record { code = 0x1b; name = codes "WRITE"; parameters = Serial ∷ Address ∷ Mask ∷ Data ∷ [] }

abbrev pub code_of : Command → ℕ
code_of c = (form_of c).code

abbrev pub layout : Command → List Parameter
layout c = (form_of c).parameters

-- A parameter by its name, and by how many bytes it has.
pub record Shape : Type 0 where
  pub name : List ℕ
  pub size : ℕ

abbrev pub shape_of : Parameter → Shape
shape_of Serial = record { name = codes "SNR"; size = 8 }
shape_of Address = record { name = codes "ADDRESS"; size = 1 }
shape_of Mask = record { name = codes "BYTE_MASK"; size = 1 }
shape_of Word = record { name = codes "WORD_DATA"; size = 8 }
shape_of Data = record { name = codes "BLOCK_DATA"; size = 4 }
shape_of Length = record { name = codes "LENGTH"; size = 1 }
shape_of Ignored = record { name = codes "IGNORED"; size = 2 }

abbrev pub size_of : Parameter → ℕ
size_of p = (shape_of p).size

abbrev pub sizes : List Parameter → ℕ
sizes [] = 0
sizes (p ∷ ps) = size_of p + sizes ps

-- A frame has a code, the parameters and two bytes of check value.
abbrev pub length_of : Command → ℕ
length_of c = 3 + sizes (layout c)

abbrev pub commands : List Command
commands =
    Select ∷ UnselectNe ∷ UnselectIdFlag ∷ UnselectNoidFlag ∷ Query ∷ Scroll ∷ Repeat ∷ Reset ∷ Read ∷ Verify ∷ Lock ∷ Qlock ∷ ReadFlexible ∷ Write ∷ []

abbrev pub first_with_code : ℕ → List Command → Option Command
first_with_code code cs = find (λ c. code_of c == code) cs

-- The command with a code, if there is one.
unfoldable pub command_with_code : ℕ → Option Command
command_with_code code = first_with_code code commands

-- What a table of commands says of one.
abbrev pub entry_of : Command → Entry
entry_of c = record { command = c; code = code_of c; length = length_of c }

-- The first entry of a table with a code.
abbrev pub first_entry : ℕ → List Entry → Option Entry
first_entry code entries = find (λ e. e.code == code) entries
