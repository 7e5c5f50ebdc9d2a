-- Reading a line back: its columns, and its length. Assumes nothing.
use Rattle.std.specs.Prelude.{◌≡◌, ℕ, zero, suc, ◌+◌, ◌-◌, ◌*◌, ◌^◌, ◌<◌, if◌then◌else◌, ◌∷◌, ◌==◌}
use Rattle.std.specs.Prelude.{List, [], length, take, drop, fold}
use Rattle.std.specs.List.{AllByRecursion}
use Rattle.sheet.specs.Sheets.{line}

-- A column reads as the number that its digits spell. Blanks say nothing.
abbrev pub read_byte : ℕ → ℕ → ℕ
read_byte so_far byte = if byte == 32 then so_far else so_far * 10 + (byte - 48)

unfoldable pub read_column : List ℕ → ℕ
read_column bytes = fold read_byte 0 bytes

-- So many columns at the front of some bytes.
unfoldable pub read_columns : ℕ → ℕ → List ℕ → List ℕ
read_columns width zero bytes = []
read_columns width (suc count) bytes = read_column (take width bytes) ∷ read_columns width count (drop width bytes)

-- A line reads back as the numbers that it was printed from, and has no byte but its columns and the line feed.
pub record ReadsBack (width : ℕ) (numbers : List ℕ) : Type 0 where
  pub same : read_columns width (length numbers) (line width numbers) ≡ numbers
  pub size : length (line width numbers) ≡ width * length numbers + 1

-- Each line does in which every number has a column's digits or fewer.
unfoldable pub LinesReadBack : Type 0
LinesReadBack =
    (width : ℕ) (numbers : List ℕ) → 0 < width → AllByRecursion (λ n. (n < 10 ^ width) × (n < 2 ^ 64)) numbers → ReadsBack width numbers
