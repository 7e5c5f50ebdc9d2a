-- The commands that a reader sends in a sweep. Assumes nothing.
use Rattle.std.specs.Prelude.{ℕ, List, [], ◌∷◌, ◌++◌, take}
use Rattle.crc.specs.Check.{sealed}
use Rattle.protocol.specs.declared.command.Command.{Command}
use Rattle.protocol.specs.declared.command.Command.TheVariants.{Select, Query, Scroll, Repeat, Read}
use Rattle.protocol.specs.Commands.{code_of}
use Rattle.reply.specs.Replies.{longest_reply}
use Rattle.field.specs.declared.hearing.Hearing.{Hearing}
use Rattle.field.specs.Airs.{Air, heard_bytes}
use Rattle.field.specs.Sends.{padded}

-- A frame has the code, the parameters and the check value.
abbrev pub frame_of : Command → List ℕ → List ℕ
frame_of c parameters = sealed (code_of c ∷ parameters)

-- SELECT asks for tags whose first two bytes are EF 04: address 00, mask C0, and this word.
abbrev pub word : List ℕ
word = 0xef ∷ 0x04 ∷ 0x00 ∷ 0x00 ∷ 0x00 ∷ 0x00 ∷ 0x00 ∷ 0x00 ∷ []

abbrev pub wanted : List ℕ
wanted = 0x00 ∷ 0xc0 ∷ word

-- READ asks the tag with a serial number for its bytes from address 00 on.
abbrev pub target : List ℕ → List ℕ
target serial = serial ++ 0x00 ∷ []

-- The frame of each command.
unfoldable pub select : List ℕ
select = frame_of Select wanted

unfoldable pub query : List ℕ
query = frame_of Query []

unfoldable pub scroll : List ℕ
scroll = frame_of Scroll []

unfoldable pub repeat : List ℕ
repeat = frame_of Repeat []

unfoldable pub read : List ℕ → List ℕ
read serial = frame_of Read (target serial)

-- The serial number in a reply: the first eight bytes of what stands in the reply buffer.
unfoldable pub serial_in : Hearing → Air → List ℕ
serial_in h air = take 8 (padded longest_reply (heard_bytes h air))
