-- The printed sheet of a sweep, byte by byte. Assumes nothing.
use Rattle.std.specs.Prelude.{ℕ, ◌+◌, ◌-◌, List, [], ◌∷◌, ◌++◌, length, replicate, decimal}
use Rattle.std.specs.List.{flat_map}
use Rattle.protocol.specs.Commands.{code_of}
use Rattle.field.specs.Airs.{hearing_number}
use Rattle.slot.specs.declared.listed.ListedSlot.{ListedSlot}
use Rattle.slot.specs.declared.ending.Report.{Report}
use Rattle.slot.specs.Counts.{end_number}

abbrev pub blanks : ℕ → List ℕ
blanks count = replicate count 32

-- A number, right-justified in a column, and whole where the column is too narrow.
abbrev pub column : ℕ → ℕ → List ℕ
column width number = blanks (width - length (decimal number)) ++ decimal number

unfoldable pub columns : ℕ → List ℕ → List ℕ
columns width numbers = flat_map (column width) numbers

-- A line of numbers, with its line feed.
abbrev pub line : ℕ → List ℕ → List ℕ
line width numbers = columns width numbers ++ 10 ∷ []

-- The slots, which are numbered.
abbrev pub slot_line : ℕ → ListedSlot → List ℕ
slot_line number slot = line 6 (number ∷ code_of slot.command ∷ hearing_number slot.hearing ∷ slot.waiting ∷ [])

abbrev pub slot_lines : ℕ → List ListedSlot → List ℕ
slot_lines number [] = []
slot_lines number (slot ∷ slots) = slot_line number slot ++ slot_lines (number + 1) slots

-- The serial numbers.
abbrev pub serial_line : List ℕ → List ℕ
serial_line serial = line 4 serial

abbrev pub serial_lines : List (List ℕ) → List ℕ
serial_lines serials = flat_map serial_line serials

abbrev pub last_line : Report → List ℕ
last_line report =
    line 6 (end_number report.end ∷ report.counts.lone ∷ report.counts.silent ∷ report.counts.clash ∷ report.counts.commands ∷ [])

abbrev pub sheet : List ListedSlot → List (List ℕ) → Report → List ℕ
sheet slots serials report = slot_lines 1 slots ++ (serial_lines serials ++ last_line report)
