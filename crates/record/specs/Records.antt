-- The record of a tag, and what its parts say. Assumes nothing.
use Rattle.std.specs.Prelude.{ℕ, Bool, true, false, List, ◌∷◌, map, take, replicate, None, nat_lt, slice_index, slice_index_or}
use Rattle.std.specs.List.{range_with_len}
use Rattle.record.specs.declared.State.TheVariants.{Ready}
use Rattle.record.specs.declared.WriteMark.{WriteMark}
use Rattle.record.specs.declared.WriteMark.TheVariants.{Clear, Fading, Fresh}
use Rattle.record.specs.declared.Tag.{Tag}

-- Addresses above 37 read as 00.
abbrev pub byte_at : Tag → ℕ → ℕ
byte_at t a = slice_index t.memory a

-- Addresses above 37 count as locked.
abbrev pub locked_at : Tag → ℕ → Bool
locked_at t a = slice_index_or t.locks a true

-- So many bytes of a memory from an address on. Addresses do not wrap.
unfoldable pub bytes_from : List ℕ → ℕ → ℕ → List ℕ
bytes_from memory a n = map (λ i. slice_index memory i) (range_with_len a n)

abbrev pub serial_of : Tag → List ℕ
serial_of t = take 8 t.memory

-- The write mark as a number.
abbrev pub mark_number : WriteMark → ℕ
mark_number Clear = 0
mark_number Fading = 1
mark_number Fresh = 2

-- The mark falls by one if it can.
abbrev pub fallen : WriteMark → WriteMark
fallen Fresh = Fading
fallen Fading = Clear
fallen Clear = Clear

-- WRITE_OK: the mark, once fallen, is at least 1.
abbrev pub is_write_ok : WriteMark → Bool
is_write_ok m = nat_lt 0 (mark_number m)

-- A new tag of 56 bytes: only the first two are locked, and all else is clear.
abbrev pub new_tag : List ℕ → Tag
new_tag memory =
    record {
      memory = memory;
      locks = true ∷ true ∷ replicate 54 false;
      state = Ready;
      identified = false;
      counter = 0;
      mark = Clear;
      permission = None;
    }
