-- Parameters in a frame. Assumes nothing.
use Rattle.std.specs.Prelude.{◌≡◌, ℕ, ◌+◌, ◌≤◌, if◌then◌else◌, ◌∷◌, ◌==◌}
use Rattle.std.specs.Prelude.{List, [], length, take, drop, Some, None, Option}
use Rattle.std.specs.List.{flat_map, AllByRecursion}
use Rattle.protocol.specs.declared.command.Parameter.{Parameter}
use Rattle.protocol.specs.declared.command.Parameter.TheVariants.{Serial, Address, Mask, Word, Data, Length, Ignored}
use Rattle.frame.specs.declared.request.Span.{Span}
use Rattle.protocol.specs.Commands.{size_of}

-- A parameter in a frame: which one, how far from the frame's first byte, and its bytes.
pub record Part : Type 0 where
  pub parameter : Parameter
  pub offset : ℕ
  pub bytes : List ℕ

-- Parameters lie one behind another, from an offset on.
abbrev pub placed : ℕ → List Parameter → List ℕ → List Part
placed offset [] bytes = []
placed offset (p ∷ ps) bytes =
    record { parameter = p; offset = offset; bytes = take (size_of p) bytes } ∷ placed (offset + size_of p) ps (drop (size_of p) bytes)

-- The bytes of some parameters, one behind another.
abbrev pub bytes_in : List Part → List ℕ
bytes_in parts = flat_map (λ p. p.bytes) parts

-- Each part's bytes are those of the frame at its offset, and end before the check value.
abbrev pub Within : List ℕ → List Part → Type 0
Within frame parts =
    AllByRecursion (λ p. (take (length p.bytes) (drop p.offset frame) ≡ p.bytes) × (p.offset + length p.bytes + 2 ≤ length frame)) parts

-- The parameters by number, in the order in which frames have them.
abbrev pub parameter_number : Parameter → ℕ
parameter_number Serial = 0
parameter_number Address = 1
parameter_number Mask = 2
parameter_number Word = 3
parameter_number Data = 4
parameter_number Length = 5
parameter_number Ignored = 6

-- Where a parameter lies, if it is there.
abbrev pub span_of : Parameter → List Part → Option Span
span_of p [] = None
span_of p (x ∷ xs) =
    if parameter_number x.parameter == parameter_number p
    then Some (record { offset = x.offset; length = length x.bytes }) else span_of p xs

-- A parameter's bytes, none if it is not there.
abbrev pub bytes_of : Parameter → List Part → List ℕ
bytes_of p [] = []
bytes_of p (x ∷ xs) = if parameter_number x.parameter == parameter_number p then x.bytes else bytes_of p xs
