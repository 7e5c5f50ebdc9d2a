-- The listings, computed. What a text spells is what it decodes to. Assumes nothing.
use Rattle.std.proofs.Common.{◌≡◌, ℕ, false, Bool, List, [], Ok, inl, inr, refl}
use Rattle.std.specs.Fmt.{digits}
use Rattle.std.specs.Result.{result_unwrap_or}
use Rattle.crc.specs.Check.{moved_up, bit_taken, bits, byte_taken, sealed}
use Rattle.protocol.specs.Commands.{command_with_code}
use Rattle.frame.specs.Makings.{making}
use Rattle.hex.specs.Hex.{decode_of, decode_pairs, decode_sized, encode_with}
use Rattle.record.specs.Records.{bytes_from}
use Rattle.notation.specs.Hexadecimal.{has_small}
use Rattle.notation.specs.Words.{locks_of, SpellsLocks}
use Rattle.protocol.specs.declared.refusal.Refusal.TheVariants as refusal
use Rattle.notation.proofs.Capitals.{spells_decoded, spells_sized}
use Rattle.worked_cases.specs.Notation.{ShownBytes, SmallLetters, SpeltBytes, SpeltArrays, SpeltSingle, SpeltBits}
use Rattle.worked_cases.specs.Notation.{SpeltMarks, SpeltPermissions, SpeltLocks, ErrorsListed, ErrorsOfHex}
use Rattle.worked_cases.specs.Notation.{LinesListed, NumberedTags, SampleListed, FramesListed, NoFramesListed}
use Rattle.worked_cases.specs.Notation.{RepliesListed}

abbrev decoded : List ℕ → List ℕ
decoded text = result_unwrap_or (decode_of text) []

locks_decoded :
    (text : List ℕ) (locks : List Bool) → has_small text ≡ false → decode_sized text 7 ≡ Ok (decoded text)
    → locks ≡ locks_of (decoded text) → SpellsLocks text locks
locks_decoded text locks small h same = (decoded text, spells_sized text 7 (decoded text) small h, same)

pub shown_bytes : ShownBytes
unfolding ShownBytes encode_with
shown_bytes = search

pub small_letters : SmallLetters
unfolding SmallLetters
small_letters = search

pub spelt_bytes : SpeltBytes
unfolding SpeltBytes decode_pairs
spelt_bytes = (inr (refl, refl), search (inl, spells_decoded))

pub spelt_arrays : SpeltArrays
unfolding SpeltArrays decode_pairs
spelt_arrays = search (spells_sized)

pub spelt_single : SpeltSingle
unfolding SpeltSingle decode_pairs
spelt_single = search (spells_decoded)

pub spelt_bits : SpeltBits
unfolding SpeltBits
spelt_bits = search

pub spelt_marks : SpeltMarks
unfolding SpeltMarks
spelt_marks = search

pub spelt_permissions : SpeltPermissions
unfolding SpeltPermissions decode_pairs
spelt_permissions = search (spells_decoded)

pub spelt_locks : SpeltLocks
unfolding SpeltLocks decode_pairs
spelt_locks = search (locks_decoded)

pub errors_listed : ErrorsListed
unfolding ErrorsListed
errors_listed = search

pub errors_of_hex : ErrorsOfHex
unfolding ErrorsOfHex
errors_of_hex = search

pub lines_listed : LinesListed
unfolding LinesListed digits
lines_listed = search

pub numbered_tags : NumberedTags
unfolding NumberedTags
numbered_tags = search

pub sample_listed : SampleListed
unfolding SampleListed
sample_listed = search

pub frames_listed : FramesListed
unfolding FramesListed making command_with_code moved_up bit_taken bits byte_taken sealed
frames_listed = search

pub no_frames_listed : NoFramesListed
unfolding NoFramesListed making command_with_code
no_frames_listed = ((refusal.Code, refl, refl), ((refusal.Length, refl, refl), ((refusal.Length, refl, refl), tt)))

pub replies_listed : RepliesListed
unfolding RepliesListed moved_up bit_taken bits byte_taken sealed bytes_from
replies_listed = search
