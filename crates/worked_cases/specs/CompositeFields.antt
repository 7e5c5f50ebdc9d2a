-- Pairs and spoilers at the limits, by the second implementation, which wrote this file. Assumes nothing.
use Rattle.std.specs.Prelude.{◌≡◌, ℕ, cond, List, [], ◌∷◌, Some, None, Option}
use Rattle.std.specs.List.{AllByRecursion}
use Rattle.record.specs.declared.State.TheVariants.{Singulation}
use Rattle.record.specs.declared.Tag.{Tag}
use Rattle.field.specs.declared.hearing.Hearing.{Hearing}
use Rattle.field.specs.declared.hearing.Hearing.TheVariants.{Silence, Lone, Clash}
use Rattle.field.specs.Sends.{row_behind}
use Rattle.composite_fields.specs.Pairs.{fits, paired}
use Rattle.composite_fields.specs.Spoilers.{lone_count, spoiled}
use Rattle.worked_cases.specs.Words.{numbered, numbered_from}

-- The tags of a pair, if it is made.
abbrev pub pair_made : List Tag → List Tag → Option (List Tag)
pair_made left right = cond (fits left right) (Some (paired left right)) None

-- Two sides, and the tags of the pair, if there are not too many for one.
unfoldable pub PairsMade : Type 0
PairsMade =
    AllByRecursion {X = List Tag × List Tag × Option (List Tag)} (λ (left, right, made). pair_made left right ≡ made)
    (([], [], Some []) ∷ ([], numbered 0x00 Singulation 0x00 ∷ [], Some (numbered 0x00 Singulation 0x00 ∷ []))
    ∷ (numbered 0x00 Singulation 0x00 ∷ [], [], Some (numbered 0x00 Singulation 0x00 ∷ []))
    ∷ (
      numbered_from 0x00 2 Singulation 0x00,
      numbered 0x02 Singulation 0x00 ∷ [],
      Some (numbered_from 0x00 3 Singulation 0x00),
    )
    ∷ ([], numbered_from 0x00 64 Singulation 0x00, Some (numbered_from 0x00 64 Singulation 0x00))
    ∷ (numbered_from 0x00 64 Singulation 0x00, [], Some (numbered_from 0x00 64 Singulation 0x00))
    ∷ (
      numbered_from 0x00 63 Singulation 0x00,
      numbered 0x3f Singulation 0x00 ∷ [],
      Some (numbered_from 0x00 64 Singulation 0x00),
    )
    ∷ (numbered_from 0x00 64 Singulation 0x00, numbered 0x40 Singulation 0x00 ∷ [], None)
    ∷ (numbered 0x00 Singulation 0x00 ∷ [], numbered_from 0x01 64 Singulation 0x00, None)
    ∷ (numbered_from 0x00 32 Singulation 0x00, numbered_from 0x20 33 Singulation 0x00, None) ∷ [])

-- How many places there are on the left of a pair, its row, and the row of its right.
unfoldable pub RowsBehind : Type 0
RowsBehind =
    AllByRecursion {X = ℕ × ℕ × ℕ} (λ (border, row, behind). row_behind border row ≡ behind)
    ((0, 0x1, 0x1) ∷ (0, 0x8000000000000000, 0x8000000000000000) ∷ (0, 0xffffffffffffffff, 0xffffffffffffffff)
    ∷ (1, 0x1, 0x0) ∷ (1, 0x8000000000000000, 0x4000000000000000) ∷ (1, 0xffffffffffffffff, 0x7fffffffffffffff)
    ∷ (63, 0x1, 0x0) ∷ (63, 0x8000000000000000, 0x1) ∷ (63, 0xffffffffffffffff, 0x1) ∷ (64, 0x1, 0x0)
    ∷ (64, 0x8000000000000000, 0x0) ∷ (64, 0xffffffffffffffff, 0x0) ∷ [])

-- What is heard from below, and how many lone replies that is.
unfoldable pub LonesCounted : Type 0
LonesCounted =
    AllByRecursion {X = Hearing × ℕ} (λ (below, count). lone_count below ≡ count)
    ((Silence, 0) ∷ (Lone, 1) ∷ (Clash, 0) ∷ [])

-- A period, which lone reply it would be, what is heard from below, and what is heard.
unfoldable pub HeardSpoiled : Type 0
HeardSpoiled =
    AllByRecursion {X = ℕ × ℕ × Hearing × Hearing}
    (λ (period, which, below, heard). spoiled period which below ≡ heard)
    ((1, 1, Lone, Clash) ∷ (1, 2, Lone, Clash) ∷ (1, 1, Silence, Silence) ∷ (1, 1, Clash, Clash) ∷ (2, 1, Lone, Lone)
    ∷ (2, 2, Lone, Clash) ∷ (2, 3, Lone, Lone) ∷ (2, 4, Lone, Clash) ∷ (2, 2, Silence, Silence) ∷ (2, 2, Clash, Clash)
    ∷ (3, 2, Lone, Lone) ∷ (3, 3, Lone, Clash) ∷ (65535, 65534, Lone, Lone) ∷ (65535, 65535, Lone, Clash)
    ∷ (65535, 65536, Lone, Lone) ∷ [])
