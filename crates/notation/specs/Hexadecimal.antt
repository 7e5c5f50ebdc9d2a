-- Bytes in hexadecimal: how they are shown, and what a text spells. Assumes nothing.
use Rattle.std.specs.Prelude.{◌≡◌, ℕ, ◌++◌, ◌⊎◌, List, [], ◌∷◌, length, Bool, codes}
use Rattle.std.specs.Char.{is_ascii_lowercase}
use Rattle.std.specs.List.{flat_map, list_any}
use Rattle.hex.specs.Hex.{encode_upper, IsBytes}
use Rattle.notation.specs.declared.error.NotationError.{NotationError}
use Rattle.notation.specs.declared.error.NotationError.TheVariants.{Bytes}

-- A byte by two digits, behind something.
abbrev pub behind : List ℕ → ℕ → List ℕ
behind between byte = between ++ encode_upper (byte ∷ [])

-- Two digits for each byte, with something between each two bytes, and a dash for no bytes.
abbrev pub shown : List ℕ → List ℕ → List ℕ
shown between [] = codes "-"
shown between (first ∷ rest) = encode_upper (first ∷ []) ++ flat_map (behind between) rest

-- A text spells bytes by two digits for each, with capital letters.
abbrev pub SpellsDigits : List ℕ → List ℕ → Type 0
SpellsDigits text bytes = IsBytes bytes × (encode_upper bytes ≡ text)

-- It may spell no bytes by a dash as well.
abbrev pub SpellsBytes : List ℕ → List ℕ → Type 0
SpellsBytes text bytes = SpellsDigits text bytes ⊎ ((text ≡ codes "-") × (bytes ≡ []))

-- It spells nothing at all, and an error says so.
abbrev pub IsNoBytes : List ℕ → NotationError → Type 0
IsNoBytes text e = (e ≡ Bytes) × ((bytes : List ℕ) → SpellsBytes text bytes → ⊥)

-- It spells a certain number of bytes.
abbrev pub SpellsArray : ℕ → List ℕ → List ℕ → Type 0
SpellsArray n text bytes = SpellsDigits text bytes × (length bytes ≡ n)

-- It spells one byte.
abbrev pub SpellsByte : List ℕ → ℕ → Type 0
SpellsByte text byte = SpellsDigits text (byte ∷ [])

-- Whether a text has small letters.
abbrev pub has_small : List ℕ → Bool
has_small text = list_any is_ascii_lowercase text
