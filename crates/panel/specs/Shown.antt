-- What the panel is shown of a frame. Assumes nothing.
use Rattle.std.specs.Prelude.{◌≡◌, ℕ, ◌+◌, ◌<◌, ◌∷◌}
use Rattle.std.specs.Prelude.{List, [], length, take, drop, Some, None, Option, slice_index}
use Rattle.std.specs.List.{flat_map, AllByRecursion}
use Rattle.protocol.specs.declared.command.Parameter.{Parameter}
use Rattle.protocol.specs.declared.command.Parameter.TheVariants.{Serial, Address, Mask, Word, Data, Length, Ignored}
use Rattle.frame.specs.declared.request.Span.{Span}
use Rattle.frame.specs.Makings.{Making, unmade, made, writing, buffer_after}
use Rattle.frame.specs.Openings.{Opening, refused, opened, opening, parts_in}
use Rattle.frame.specs.Parts.{Part, span_of, bytes_of}

-- Offset and length of a parameter, and zeros where it is not there. No parameter has offset 0, where the code stands.
abbrev pub offset_in : Option Span → ℕ
offset_in None = 0
offset_in (Some s) = s.offset

abbrev pub length_in : Option Span → ℕ
length_in None = 0
length_in (Some s) = s.length

-- The code, then offset and length of each parameter, always in the same places.
abbrev pub shown_of : ℕ → List Part → List ℕ
shown_of code parts =
    code ∷ flat_map (λ p. offset_in (span_of p parts) ∷ length_in (span_of p parts) ∷ [])
    (Serial ∷ Address ∷ Mask ∷ Word ∷ Data ∷ Length ∷ Ignored ∷ [])

-- What is shown of what opening gave, in bytes with some room: its bytes, or a refusal, which is one of opening's or that
-- of too little room.
abbrev pub showing : Opening → ℕ → Making
showing (refused n) room = unmade n
showing (opened code c parts) room = writing (shown_of code parts) room

-- A refusal by its number, and 0 for none.
abbrev pub number_in : Making → ℕ
number_in (unmade n) = n
number_in (made shown) = 0

abbrev pub status_of : Opening → ℕ → ℕ
status_of o room = number_in (showing o room)

-- What is shown stands at the front, and the bytes behind it are as they were, as where a frame is made. A refusal
-- changes nothing.
abbrev pub shown_after : Opening → List ℕ → List ℕ
shown_after o before = buffer_after (showing o (length before)) before

-- Offsets and lengths are bytes.
abbrev pub Small : List Part → Type 0
Small parts = AllByRecursion (λ p. p.offset + length p.bytes < 256) parts

-- Where the shown bytes have a parameter's offset. Its length comes next.
abbrev pub offset_place : Parameter → ℕ
offset_place Serial = 1
offset_place Address = 3
offset_place Mask = 5
offset_place Word = 7
offset_place Data = 9
offset_place Length = 11
offset_place Ignored = 13

-- The bytes of a frame that the shown bytes select for a parameter: as many as its length, from its offset on.
abbrev pub selected_by : List ℕ → Parameter → List ℕ → List ℕ
selected_by shown p frame = take (slice_index shown (offset_place p + 1)) (drop (slice_index shown (offset_place p)) frame)

-- What is shown selects just the bytes of each parameter in a frame, and none for a parameter that is not there.
abbrev pub Selects : List ℕ → List ℕ → Type 0
Selects shown frame = (p : Parameter) → selected_by shown p frame ≡ bytes_of p (parts_in (opening frame))
