-- Masks, and what they select of the bytes from an address on. Assumes nothing.
use Rattle.std.specs.Prelude.{ℕ, zero, suc, ◌+◌, ◌-◌, Bool, true, if◌then◌else◌, ◌==◌}
use Rattle.std.specs.Prelude.{List, slice_index, slice_set}
use Rattle.std.specs.Int.{bit_at}
use Rattle.std.specs.List.{list_all, range_with_len}

-- Whether a mask selects the byte at some place, from 0: its bits stand for the places, the highest for the first.
abbrev pub selects : ℕ → ℕ → Bool
selects mask i = bit_at mask (7 - i) == 1

-- Whether the byte at a place from an address on is the wanted one, or not selected.
abbrev pub agrees_at : List ℕ → ℕ → ℕ → List ℕ → ℕ → Bool
agrees_at memory a mask word i = if selects mask i then slice_index memory (a + i) == slice_index word i else true

-- Whether the first n places agree.
abbrev pub agree : List ℕ → ℕ → ℕ → List ℕ → ℕ → Bool
agree memory a mask word n = list_all (agrees_at memory a mask word) (range_with_len 0 n)

-- Masked comparison looks at eight bytes from an address on.
abbrev pub matches : List ℕ → ℕ → ℕ → List ℕ → Bool
matches memory a mask word = agree memory a mask word 8

-- The memory once the byte at a place is stored, if it is selected.
abbrev pub stored_at : ℕ → ℕ → List ℕ → List ℕ → ℕ → List ℕ
stored_at a mask bytes memory i = if selects mask i then slice_set memory (a + i) (slice_index bytes i) else memory

-- The memory once the first n places are stored from an address on, those that are selected.
unfoldable pub stored : ℕ → ℕ → List ℕ → List ℕ → ℕ → List ℕ
stored a mask bytes memory zero = memory
stored a mask bytes memory (suc n) = stored_at a mask bytes (stored a mask bytes memory n) n
