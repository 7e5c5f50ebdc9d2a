-- What the words of a question spell. Assumes nothing.
use Rattle.std.specs.Prelude.{◌≡◌, ℕ, ◌==◌, Bool, ◌⊎◌, List, length, codes}
use Rattle.std.specs.Int.{w64, from_be_bytes}
use Rattle.std.specs.List.{before_first, after_first, position_or_len}
use Rattle.std.specs.Str.Parse.{IsNumeral, digits_value, without_leading_plus}
use Rattle.record.specs.declared.Tag.{Tag}
use Rattle.field.specs.Sends.{tags_after_send, after_gap_all}
use Rattle.notation.specs.Hexadecimal.{SpellsArray, SpellsBytes}

abbrev pub is_space : ℕ → Bool
is_space byte = byte == 32

-- What stands in front of the first space, and what stands behind it.
abbrev pub first_word : List ℕ → List ℕ
first_word text = before_first is_space text

abbrev pub behind_first : List ℕ → List ℕ
behind_first text = after_first is_space text

-- There is no space.
abbrev pub IsOneWord : List ℕ → Type 0
IsOneWord text = position_or_len is_space text ≡ length text

-- A text spells a row of coins by the digits of its eight bytes, the highest first.
abbrev pub SpellsRow : List ℕ → ℕ → Type 0
SpellsRow text row = (bytes : List ℕ) × SpellsArray 8 text bytes × (row ≡ from_be_bytes w64 bytes)

-- It spells a number in decimal.
abbrev pub SpellsNumber : List ℕ → ℕ → Type 0
SpellsNumber text n = IsNumeral 10 (without_leading_plus text) × (n ≡ digits_value 10 (without_leading_plus text))

-- It spells what is sent by its three words.
abbrev pub SpellsSending : List ℕ → ℕ → ℕ → List ℕ → Type 0
SpellsSending text row room frame =
    SpellsRow (first_word text) row × SpellsNumber (first_word (behind_first text)) room × SpellsBytes (behind_first (behind_first text)) frame

-- The tags of a field before and after a send that a text spells.
pub record Sends (text : List ℕ) (before after : List Tag) : Type 0 where
  pub row : ℕ
  pub room : ℕ
  pub frame : List ℕ
  pub spelt : SpellsSending text row room frame
  pub tags : after ≡ tags_after_send room frame row before

-- And before and after a gap that a text spells.
pub record Passes (text : List ℕ) (before after : List Tag) : Type 0 where
  pub microseconds : ℕ
  pub spelt : SpellsNumber text microseconds
  pub tags : after ≡ after_gap_all microseconds before

-- A question to a field is a send, a gap or a sweep.
abbrev pub Asks : (verb rest : List ℕ) → List Tag → List Tag → Type 0
Asks verb rest before after = ((verb ≡ codes "send") × Sends rest before after) ⊎ ((verb ≡ codes "gap") × Passes rest before after) ⊎ (verb ≡ codes "sweep")
