-- Making: which frame a code and its parameters have, and which refusal meets what has none. Assumes nothing.
use Rattle.std.specs.Prelude.{◌≡◌, ℕ, ◌+◌, if◌then◌else◌, ◌∷◌, ◌++◌, ◌==◌}
use Rattle.std.specs.Prelude.{List, length, drop, Some, None, Option, nat_lt}
use Rattle.crc.specs.Check.{sealed}
use Rattle.protocol.specs.declared.command.Command.{Command}
use Rattle.protocol.specs.Commands.{length_of, command_with_code}
use Rattle.frame.specs.Openings.{opened, opening}
use Rattle.frame.specs.Parts.{Part, bytes_in}
use Rattle.protocol.specs.Refusals.{WriteResult, wrote, not_written}

pub data Making : Type 0 where
  -- by the refusal's number
  unmade : ℕ → Making
  -- the whole frame
  made : List ℕ → Making

abbrev pub making_by_command : Option Command → ℕ → List ℕ → ℕ → Making
making_by_command None code parameters room = unmade 3
making_by_command (Some c) code parameters room =
    if length parameters + 3 == length_of c then
    (if nat_lt room (length_of c) then unmade 5 else made (sealed (code ∷ parameters))) else unmade 4

-- How many bytes the longest frame has.
abbrev pub longest_frame : ℕ
longest_frame = 17

-- Making, in a buffer with some room: the refusals in the order in which they are tried, and else the frame.
unfoldable pub making : ℕ → List ℕ → ℕ → Making
making code parameters room = making_by_command (command_with_code code) code parameters room

-- The caller is told the frame's length.
abbrev pub result_of : Making → WriteResult
result_of (unmade n) = not_written n
result_of (made frame) = wrote (length frame)

-- The frame stands at the buffer's front, and the bytes behind it are as they were. A refusal changes nothing.
abbrev pub buffer_after : Making → List ℕ → List ℕ
buffer_after (unmade n) buffer = buffer
buffer_after (made frame) buffer = frame ++ drop (length frame) buffer

-- Writing some bytes into a buffer with some room: the bytes, or the refusal of a buffer too short.
abbrev pub writing : List ℕ → ℕ → Making
writing bytes room = if nat_lt room (length bytes) then unmade 5 else made bytes

-- A frame opens as a code with some parameters.
abbrev pub OpensAs : ℕ → List ℕ → List ℕ → Type 0
OpensAs code parameters frame =
    (c : Command) × (parts : List Part) × (opening frame ≡ opened code c parts) × (bytes_in parts ≡ parameters)
