-- What is spelt and sent, by the second implementation, which wrote this file. Assumes nothing.
use Prim.Native.String.{String}
use Rattle.std.specs.Prelude.{◌≡◌, ℕ, Bool, true, false, List, [], ◌∷◌, ◌++◌, replicate, Option, Some, None, codes}
use Rattle.std.specs.List.{AllByRecursion, range_with_len}
use Rattle.hex.specs.declared.error.FromHexError.{FromHexError}
use Rattle.hex.specs.declared.error.FromHexError.TheVariants.{InvalidHexCharacter, OddLength}
use Rattle.hex.specs.declared.error.FromHexError.TheVariants.{InvalidStringLength, OutOfMemory}
use Rattle.protocol.specs.declared.refusal.Refusal.TheVariants as refusal
use Rattle.record.specs.declared.State.TheVariants.{Ready}
use Rattle.record.specs.declared.Tag.{Tag}
use Rattle.record.specs.declared.WriteMark.{WriteMark}
use Rattle.record.specs.declared.WriteMark.TheVariants.{Clear, Fading, Fresh}
use Rattle.reply.specs.declared.Reply.{Reply}
use Rattle.reply.specs.declared.Reply.TheVariants.{Serial, Memory, Status}
use Rattle.notation.specs.declared.error.NotationError.{NotationError}
use Rattle.notation.specs.declared.error.NotationError.TheVariants as notation_error
use Rattle.notation.specs.Hexadecimal.{shown, has_small, SpellsBytes, SpellsArray, SpellsByte}
use Rattle.notation.specs.Errors.{error_text, line_text, of_hex}
use Rattle.notation.specs.Samples.{numbered_serial, numbered_memory, sample_serial, sample_memory}
use Rattle.notation.specs.Encodings.{IsFrame, IsNoFrame, reply_bytes}
use Rattle.notation.specs.Words.{SpellsBit, SpellsMark, SpellsPermission, SpellsLocks}
use Rattle.worked_cases.specs.Words.{bytes, locked_in, tag_in}

-- What stands between bytes, the bytes, and how they are shown.
unfoldable pub ShownBytes : Type 0
ShownBytes =
    AllByRecursion {X = String × String × String}
    (λ (between, all, text). shown (codes between) (bytes all) ≡ codes text)
    (("", "", "-") ∷ ("", "00", "00") ∷ ("", "0FFF", "0FFF") ∷ ("", "0123456789ABCDEF", "0123456789ABCDEF")
    ∷ (" ", "", "-") ∷ (" ", "00", "00") ∷ (" ", "0FFF", "0F FF")
    ∷ (" ", "0123456789ABCDEF", "01 23 45 67 89 AB CD EF") ∷ [])

-- Texts, and whether they have small letters.
unfoldable pub SmallLetters : Type 0
SmallLetters =
    AllByRecursion {X = String × Bool} (λ (text, small). has_small (codes text) ≡ small)
    (("", false) ∷ ("-", false) ∷ ("09AF", false) ∷ ("AZ@[", false) ∷ ("a", true) ∷ ("z", true) ∷ ("`{", false)
    ∷ ("0Fa", true) ∷ [])

-- Texts, and the bytes that they spell.
unfoldable pub SpeltBytes : Type 0
SpeltBytes =
    AllByRecursion {X = String × String} (λ (text, spelt). SpellsBytes (codes text) (bytes spelt))
    (("-", "") ∷ ("", "") ∷ ("00", "00") ∷ ("0F", "0F") ∷ ("FF", "FF") ∷ ("0123456789ABCDEF", "0123456789ABCDEF") ∷ [])

-- Numbers of bytes, and texts that spell so many.
unfoldable pub SpeltArrays : Type 0
SpeltArrays =
    AllByRecursion {X = ℕ × String × String} (λ (count, text, spelt). SpellsArray count (codes text) (bytes spelt))
    ((0, "", "") ∷ (2, "FF00", "FF00") ∷ (7, "C0000000000001", "C0000000000001") ∷ [])

-- Texts, and the one byte that they spell.
unfoldable pub SpeltSingle : Type 0
SpeltSingle =
    AllByRecursion {X = String × ℕ} (λ (text, spelt). SpellsByte (codes text) spelt)
    (("00", 0x00) ∷ ("0A", 0x0a) ∷ ("A0", 0xa0) ∷ ("FF", 0xff) ∷ [])

-- The two texts that spell a bit.
unfoldable pub SpeltBits : Type 0
SpeltBits =
    AllByRecursion {X = String × Bool} (λ (text, spelt). SpellsBit (codes text) spelt)
    (("0", false) ∷ ("1", true) ∷ [])

-- The three texts that spell a write mark.
unfoldable pub SpeltMarks : Type 0
SpeltMarks =
    AllByRecursion {X = String × WriteMark} (λ (text, spelt). SpellsMark (codes text) spelt)
    (("0", Clear) ∷ ("1", Fading) ∷ ("2", Fresh) ∷ [])

-- Texts, and the permission that they spell.
unfoldable pub SpeltPermissions : Type 0
SpeltPermissions =
    AllByRecursion {X = String × Option ℕ} (λ (text, spelt). SpellsPermission (codes text) spelt)
    (("-", None) ∷ ("00", Some 0x00) ∷ ("FF", Some 0xff) ∷ [])

-- Texts, and the locks that they spell: none, the first, the last, two where a byte begins, one in the middle, all.
unfoldable pub SpeltLocks : Type 0
SpeltLocks =
    AllByRecursion {X = String × List Bool} (λ (text, spelt). SpellsLocks (codes text) spelt)
    (("00000000000000", replicate 56 false) ∷ ("80000000000000", locked_in (0x00 ∷ []))
    ∷ ("00000000000001", locked_in (0x37 ∷ [])) ∷ ("01800000000000", locked_in (0x07 ∷ 0x08 ∷ []))
    ∷ ("00000010000000", locked_in (0x1b ∷ [])) ∷ ("FFFFFFFFFFFFFF", replicate 56 true) ∷ [])

-- The errors, and what is printed of each.
unfoldable pub ErrorsListed : Type 0
ErrorsListed =
    AllByRecursion {X = NotationError × String} (λ (error, text). error_text error ≡ codes text)
    ((notation_error.Bytes, "not the bytes that are wanted, in hexadecimal") ∷ (notation_error.Bit, "neither 0 nor 1")
    ∷ (notation_error.Mark, "no write mark") ∷ (notation_error.State, "no state")
    ∷ (notation_error.Missing, "a word is missing") ∷ (notation_error.Surplus, "a word too many")
    ∷ (notation_error.Memory, "out of memory") ∷ (notation_error.Refused refusal.Code, "code")
    ∷ (notation_error.Refused refusal.Length, "length") ∷ (notation_error.Refused refusal.Buffer, "buffer") ∷ [])

-- What the errors of reading hexadecimal are here.
unfoldable pub ErrorsOfHex : Type 0
ErrorsOfHex =
    AllByRecursion {X = FromHexError × NotationError} (λ (error, here). of_hex error ≡ here)
    ((InvalidHexCharacter 71 1, notation_error.Bytes) ∷ (OddLength, notation_error.Bytes)
    ∷ (InvalidStringLength, notation_error.Bytes) ∷ (OutOfMemory, notation_error.Memory) ∷ [])

-- Numbers of lines, and what is printed of each.
unfoldable pub LinesListed : Type 0
LinesListed =
    AllByRecursion {X = ℕ × String} (λ (line, text). line_text line ≡ codes text)
    ((1, "line 1") ∷ (10, "line 10") ∷ (4294967295, "line 4294967295") ∷ [])

-- Last bytes of serial numbers, the serial numbers, and the memories of the tags.
unfoldable pub NumberedTags : Type 0
NumberedTags =
    AllByRecursion {X = ℕ × String × List ℕ}
    (λ (last, serial, memory). (numbered_serial last ≡ bytes serial) × (numbered_memory last ≡ memory))
    ((0x00, "EF04020000000000", bytes "EF0402" ++ replicate 53 0x00)
    ∷ (0x01, "EF04020000000001", bytes "EF04020000000001" ++ replicate 48 0x00)
    ∷ (0xff, "EF040200000000FF", bytes "EF040200000000FF" ++ replicate 48 0x00) ∷ [])

-- The sample's serial number and its memory.
unfoldable pub SampleListed : Type 0
SampleListed =
    AllByRecursion {X = String × List ℕ}
    (λ (serial, memory). (sample_serial ≡ bytes serial) × (sample_memory ≡ memory))
    (("EF04020000000001", bytes "EF04020000000001" ++ replicate 48 0x00) ∷ [])

-- Codes with parameters, and the frame of each.
unfoldable pub FramesListed : Type 0
FramesListed =
    AllByRecursion {X = ℕ × String × String}
    (λ (code, parameters, frame). IsFrame code (bytes parameters) (bytes frame))
    ((0x09, "", "098F26") ∷ (0x00, "30313233343536373839", "0030313233343536373839B7A8")
    ∷ (0x1b, "303132333435363738393A3B3C3D", "1B303132333435363738393A3B3C3D9304") ∷ [])

-- Codes with parameters that make no frame, and the error of each.
unfoldable pub NoFramesListed : Type 0
NoFramesListed =
    AllByRecursion {X = ℕ × String × NotationError} (λ (code, rest, error). IsNoFrame code (bytes rest) error)
    ((0x01, "", notation_error.Refused refusal.Code) ∷ (0x09, "30", notation_error.Refused refusal.Length)
    ∷ (0x1b, "303132333435363738393A3B3C3D3E", notation_error.Refused refusal.Length) ∷ [])

-- Tags, what each replies, if anything, and the bytes that are sent.
unfoldable pub RepliesListed : Type 0
RepliesListed =
    AllByRecursion {X = Tag × Option Reply × List ℕ} (λ (tag, reply, sent). reply_bytes tag reply ≡ sent)
    ((tag_in Ready 0x00, None, []) ∷ (tag_in Ready 0x00, Some (Status 0x00), bytes "001E0F")
    ∷ (
      record (tag_in Ready 0x00) { memory = bytes "EF04020000000001" ++ replicate 48 0x00 },
      Some Serial,
      bytes "EF040200000000013D9D",
    )
    ∷ (tag_in Ready 0x00, Some (Memory 0x37 1), bytes "7700733E")
    ∷ (tag_in Ready 0x00, Some (Memory 0x00 255), range_with_len 0x40 56 ++ replicate 200 0x00 ++ bytes "846C") ∷ [])
