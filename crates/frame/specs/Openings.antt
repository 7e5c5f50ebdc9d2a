-- Opening: what a frame says, and which refusal meets what is no frame. Assumes nothing.
use Rattle.std.specs.Prelude.{ℕ, ◌-◌, Bool, if◌then◌else◌, ◌==◌}
use Rattle.std.specs.Prelude.{List, [], length, take, drop, Some, None, Ok, Err, Option, Result, nat_lt, slice_index}
use Rattle.std.specs.Str.{bytes_eq}
use Rattle.protocol.specs.declared.command.Command.{Command}
use Rattle.frame.specs.declared.opening.Frame.{Frame}
use Rattle.frame.specs.declared.request.Request.{Request}
use Rattle.protocol.specs.declared.refusal.Refusal.{Refusal}
use Rattle.crc.specs.Check.{sealed}
use Rattle.protocol.specs.Commands.{code_of, layout, length_of, command_with_code}
use Rattle.frame.specs.Parts.{Part, placed}
use Rattle.protocol.specs.Refusals.{number_of}
use Rattle.frame.specs.Requests.{command_of, parts_of}

pub data Opening : Type 0 where
  -- by the refusal's number
  refused : ℕ → Opening
  -- code, command and parameters in their order
  opened : ℕ → Command → List Part → Opening

-- A frame without its check value.
unfoldable pub without_check_value : List ℕ → List ℕ
without_check_value frame = take (length frame - 2) frame

-- The check value is that of all that lies before it.
unfoldable pub is_sealed : List ℕ → Bool
is_sealed frame = bytes_eq frame (sealed (without_check_value frame))

-- What lies between the code and the check value.
unfoldable pub parameters_of : List ℕ → List ℕ
parameters_of frame = drop 1 (without_check_value frame)

abbrev pub opening_by_command : Option Command → List ℕ → Opening
opening_by_command None frame = refused 3
opening_by_command (Some c) frame =
    if length frame == length_of c then opened (code_of c) c (placed 1 (layout c) (parameters_of frame)) else refused 4

-- Opening: the refusals in the order in which they are tried, and else the command with its parameters.
unfoldable pub opening : List ℕ → Opening
opening frame =
    if nat_lt (length frame) 3 then refused 1
    else (if is_sealed frame then opening_by_command (command_with_code (slice_index frame 0)) frame else refused 2)

-- What a frame of the code shows: the bytes that it was opened from, their code, and what they ask.
abbrev pub bytes_of_frame : Frame → List ℕ
bytes_of_frame f = f.bytes.now

abbrev pub code_of_frame : Frame → ℕ
code_of_frame f = f.code

abbrev pub request_of_frame : Frame → Request
request_of_frame f = f.request

-- What the code answers, in these words.
abbrev pub opening_of : Result Frame Refusal → Opening
opening_of (Ok f) = opened (code_of_frame f) (command_of (request_of_frame f)) (parts_of (request_of_frame f))
opening_of (Err e) = refused (number_of e)

-- The parameters of a frame, none if it did not open.
abbrev pub parts_in : Opening → List Part
parts_in (refused n) = []
parts_in (opened code c parts) = parts
