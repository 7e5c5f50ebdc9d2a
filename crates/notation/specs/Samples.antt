-- The tags that the programs show. Assumes nothing.
use Rattle.std.specs.Prelude.{ℕ, List, [], ◌∷◌, ◌++◌, replicate}

-- Their serial numbers differ in the last byte alone.
abbrev pub numbered_serial : ℕ → List ℕ
numbered_serial n = 0xef ∷ 0x04 ∷ 0x02 ∷ 0x00 ∷ 0x00 ∷ 0x00 ∷ 0x00 ∷ n ∷ []

-- The 56 bytes of such a tag.
abbrev pub numbered_memory : ℕ → List ℕ
numbered_memory n = numbered_serial n ++ replicate 48 0

-- The one that is shown on its own.
abbrev pub sample_serial : List ℕ
sample_serial = numbered_serial 1

abbrev pub sample_memory : List ℕ
sample_memory = numbered_memory 1
