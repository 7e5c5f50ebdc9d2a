-- Opening and making at the limits, by the second implementation, which wrote this file. Assumes nothing.
use Prim.Native.String.{String}
use Rattle.std.specs.Prelude.{◌≡◌, ℕ, List, [], ◌∷◌, ◌++◌, replicate}
use Rattle.std.specs.List.{AllByRecursion}
use Rattle.protocol.specs.declared.command.Command.TheVariants.{Select, UnselectNe, UnselectIdFlag, UnselectNoidFlag}
use Rattle.protocol.specs.declared.command.Command.TheVariants.{Query, Scroll, Repeat, Reset, Read, Verify, Lock}
use Rattle.protocol.specs.declared.command.Command.TheVariants.{Qlock, ReadFlexible, Write}
use Rattle.protocol.specs.declared.command.Parameter.{Parameter}
use Rattle.protocol.specs.declared.command.Parameter.TheVariants.{Serial, Address, Mask, Word, Data, Length, Ignored}
use Rattle.protocol.specs.Refusals.{WriteResult, wrote, not_written}
use Rattle.frame.specs.Makings.{making, result_of, buffer_after}
use Rattle.frame.specs.Openings.{Opening, refused, opened, opening}
use Rattle.frame.specs.Parts.{Part}
use Rattle.frame.specs.Writing.{overlaid}
use Rattle.worked_cases.specs.Words.{bytes, used}

abbrev pub part : Parameter → ℕ → String → Part
part parameter offset held = record { parameter = parameter; offset = offset; bytes = bytes held }

-- A frame of each command, and what opening shows of it.
unfoldable pub OpenedFrames : Type 0
OpenedFrames =
    AllByRecursion {X = String × Opening} (λ (frame, shown). opening (bytes frame) ≡ shown)
    ((
      "0030313233343536373839B7A8",
      opened 0x00 Select (part Address 1 "30" ∷ part Mask 2 "31" ∷ part Word 3 "3233343536373839" ∷ []),
    )
    ∷ (
      "05303132333435363738393EA6",
      opened 0x05 UnselectNe (part Address 1 "30" ∷ part Mask 2 "31" ∷ part Word 3 "3233343536373839" ∷ []),
    )
    ∷ ("193031CD76", opened 0x19 UnselectIdFlag (part Ignored 1 "3031" ∷ []))
    ∷ ("1A30319426", opened 0x1a UnselectNoidFlag (part Ignored 1 "3031" ∷ [])) ∷ ("089F07", opened 0x08 Query [])
    ∷ ("098F26", opened 0x09 Scroll []) ∷ ("155C9B", opened 0x15 Repeat []) ∷ ("0ABF45", opened 0x0a Reset [])
    ∷ ("0C3031323334353637389DAF", opened 0x0c Read (part Serial 1 "3031323334353637" ∷ part Address 9 "38" ∷ []))
    ∷ ("1D303132333435363738667C", opened 0x1d Verify (part Serial 1 "3031323334353637" ∷ part Address 9 "38" ∷ []))
    ∷ ("0F3031323334353637382C60", opened 0x0f Lock (part Serial 1 "3031323334353637" ∷ part Address 9 "38" ∷ []))
    ∷ ("113031323334353637388102", opened 0x11 Qlock (part Serial 1 "3031323334353637" ∷ part Address 9 "38" ∷ []))
    ∷ (
      "51303132333435363738397E09",
      opened 0x51 ReadFlexible (part Serial 1 "3031323334353637" ∷ part Address 9 "38" ∷ part Length 10 "39" ∷ []),
    )
    ∷ (
      "1B303132333435363738393A3B3C3D9304",
      opened 0x1b Write (part Serial 1 "3031323334353637" ∷ part Address 9 "38" ∷ part Mask 10 "39"
          ∷ part Data 11 "3A3B3C3D" ∷ []),
    )
    ∷ [])

-- Byte strings that open as nothing, each with the number of its refusal.
unfoldable pub RefusedFrames : Type 0
RefusedFrames =
    AllByRecursion {X = String × ℕ} (λ (frame, number). opening (bytes frame) ≡ refused number)
    (("", 1) ∷ ("09", 1) ∷ ("0000", 1) ∷ ("098F", 1) ∷ ("098F27", 2) ∷ ("09268F", 2) ∷ ("0970D9", 2) ∷ ("010000", 2)
    ∷ ("010E2E", 3) ∷ ("045E8B", 3) ∷ ("1CCDB2", 3) ∷ ("5044FA", 3) ∷ ("FF00FF", 3) ∷ ("001E0F", 4)
    ∷ ("003031323334353637387AD1", 4) ∷ ("08305D0A", 4) ∷ ("19306D48", 4) ∷ ("0C303132333435363738394461", 4)
    ∷ ("51303132333435363738F318", 4) ∷ ("1B303132333435363738393A3B3C5030", 4)
    ∷ ("1B303132333435363738393A3B3C3D3E7E48", 4) ∷ ("FF303132333435363738393A3B3C3DEBB9", 3) ∷ [])

-- A code and parameters, how long the buffer is, the answer of making, and the buffer after it: with room enough, with
-- room one byte short, and with what makes no frame.
unfoldable pub MadeFrames : Type 0
MadeFrames =
    AllByRecursion {X = ℕ × String × ℕ × WriteResult × List ℕ}
    (λ (code, parameters, room, answer, after).
    (result_of (making code (bytes parameters) room) ≡ answer)
    × (buffer_after (making code (bytes parameters) room) (used room) ≡ after))
    ((0x09, "", 3, wrote 3, bytes "098F26") ∷ (0x09, "", 2, not_written 5, bytes "A5A5")
    ∷ (0x09, "", 0, not_written 5, []) ∷ (0x09, "", 8, wrote 3, bytes "098F26A5A5A5A5A5")
    ∷ (0x00, "30313233343536373839", 13, wrote 13, bytes "0030313233343536373839B7A8")
    ∷ (0x00, "30313233343536373839", 12, not_written 5, replicate 12 0xa5)
    ∷ (0x19, "3031", 6, wrote 5, bytes "193031CD76A5")
    ∷ (0x51, "30313233343536373839", 13, wrote 13, bytes "51303132333435363738397E09")
    ∷ (0x1b, "303132333435363738393A3B3C3D", 17, wrote 17, bytes "1B303132333435363738393A3B3C3D9304")
    ∷ (0x1b, "303132333435363738393A3B3C3D", 16, not_written 5, replicate 16 0xa5)
    ∷ (
      0x1b,
      "303132333435363738393A3B3C3D",
      24,
      wrote 17,
      bytes "1B303132333435363738393A3B3C3D9304" ++ replicate 7 0xa5,
    )
    ∷ (0x1b, "303132333435363738393A3B3C", 17, not_written 4, replicate 17 0xa5)
    ∷ (0x1b, "303132333435363738393A3B3C3D3E", 0, not_written 4, []) ∷ (0x08, "30", 8, not_written 4, replicate 8 0xa5)
    ∷ (0x01, "", 8, not_written 3, replicate 8 0xa5)
    ∷ (0xff, "303132333435363738393A3B3C3D3E3F40", 0, not_written 3, []) ∷ [])

-- How long a buffer is, a place in it, bytes, and the buffer once they are overlaid over it there.
unfoldable pub LaidBytes : Type 0
LaidBytes =
    AllByRecursion {X = ℕ × ℕ × String × List ℕ}
    (λ (room, place, given, after). overlaid (used room) place (bytes given) ≡ after)
    ((0, 0, "", []) ∷ (4, 0, "", bytes "A5A5A5A5") ∷ (4, 4, "", bytes "A5A5A5A5")
    ∷ (4, 0, "30313233", bytes "30313233") ∷ (4, 3, "30", bytes "A5A5A530")
    ∷ (9, 2, "303132", bytes "A5A5303132A5A5A5A5") ∷ [])
