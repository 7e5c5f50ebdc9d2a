-- Sheets at the limits, by the second implementation, which wrote this file. Assumes nothing.
use Prim.Native.String.{String}
use Rattle.std.specs.Prelude.{◌≡◌, ℕ, List, [], ◌∷◌, ◌++◌, map, replicate, codes}
use Rattle.std.specs.List.{flat_map, AllByRecursion}
use Rattle.protocol.specs.declared.command.Command.{Command}
use Rattle.protocol.specs.declared.command.Command.TheVariants.{Select, Query, Scroll, Write}
use Rattle.protocol.specs.Refusals.{WriteResult, wrote, not_written}
use Rattle.frame.specs.Makings.{result_of, buffer_after, writing}
use Rattle.field.specs.declared.hearing.Hearing.{Hearing}
use Rattle.field.specs.declared.hearing.Hearing.TheVariants.{Silence, Lone, Clash}
use Rattle.slot.specs.declared.ending.End.TheVariants.{Whole, Stopped}
use Rattle.slot.specs.declared.ending.Report.{Report}
use Rattle.slot.specs.declared.ending.Stop.TheVariants.{Deep, Spent, Full}
use Rattle.sheet.specs.Sheets.{column, sheet}
use Rattle.worked_cases.specs.Words.{bytes, used, slot_row, report_of}

-- Texts, each ended by a line feed.
abbrev pub lines : List String → List ℕ
lines texts = flat_map (λ text. codes text ++ 10 ∷ []) texts

-- The sheet of one line whose rooms are tried.
abbrev pub short_sheet : List ℕ
short_sheet = sheet [] [] (report_of Whole 1 0 0 3)

-- A width, a number of one to seven digits, and its column.
unfoldable pub Columns : Type 0
Columns =
    AllByRecursion {X = ℕ × ℕ × String} (λ (width, number, text). column width number ≡ codes text)
    ((6, 0, "     0") ∷ (6, 7, "     7") ∷ (6, 10, "    10") ∷ (6, 99, "    99") ∷ (6, 100, "   100")
    ∷ (6, 255, "   255") ∷ (6, 9999, "  9999") ∷ (6, 10000, " 10000") ∷ (6, 65535, " 65535") ∷ (6, 999999, "999999")
    ∷ (6, 1000000, "1000000") ∷ (4, 0, "   0") ∷ (4, 7, "   7") ∷ (4, 10, "  10") ∷ (4, 99, "  99") ∷ (4, 100, " 100")
    ∷ (4, 255, " 255") ∷ (4, 9999, "9999") ∷ (4, 10000, "10000") ∷ (4, 65535, "65535") ∷ (4, 999999, "999999")
    ∷ (4, 1000000, "1000000") ∷ [])

-- Sheets with no line but the last, with slots and serial numbers, and with numbers of one to seven digits.
unfoldable pub SheetsPrinted : Type 0
SheetsPrinted =
    AllByRecursion {X = List (Command × Hearing × ℕ) × List String × Report × List String}
    (λ (slots, serials, report, printed). sheet (map slot_row slots) (map bytes serials) report ≡ lines printed)
    (([], [], report_of Whole 0 0 0 0, "     0     0     0     0     0" ∷ [])
    ∷ ([], [], report_of (Stopped Spent) 1 12 123 1234, "     8     1    12   123  1234" ∷ [])
    ∷ ([], [], report_of (Stopped Deep) 12345 123456 1234567 65535, "     7 123451234561234567 65535" ∷ [])
    ∷ ([], [], report_of (Stopped Full) 999999 1000000 65535 10, "     99999991000000 65535    10" ∷ [])
    ∷ (
      (Select, Clash, 0) ∷ (Query, Lone, 1) ∷ (Scroll, Lone, 0) ∷ [],
      "EF04000000000001" ∷ "EF04000000000002" ∷ [],
      report_of Whole 2 0 1 6,
      "     1     0     2     0" ∷ "     2     8     1     1" ∷ "     3     9     1     0"
          ∷ " 239   4   0   0   0   0   0   1" ∷ " 239   4   0   0   0   0   0   2" ∷ "     0     2     0     1     6"
          ∷ [],
    )
    ∷ (
      (Select, Clash, 0) ∷ [],
      [],
      report_of (Stopped Spent) 0 0 1 1,
      "     1     0     2     0" ∷ "     8     0     0     1     1" ∷ [],
    )
    ∷ (
      (Write, Silence, 255) ∷ (Query, Clash, 99) ∷ [],
      "0001090A6364FEFF" ∷ [],
      report_of (Stopped Spent) 0 1 1 2,
      "     1    27     0   255" ∷ "     2     8     2    99" ∷ "   0   1   9  10  99 100 254 255"
          ∷ "     8     0     1     1     2" ∷ [],
    )
    ∷ (
      [],
      "0000000000000000" ∷ "FFFFFFFFFFFFFFFF" ∷ [],
      report_of (Stopped Spent) 0 0 0 0,
      "   0   0   0   0   0   0   0   0" ∷ " 255 255 255 255 255 255 255 255" ∷ "     8     0     0     0     0" ∷ [],
    )
    ∷ (
      (Scroll, Silence, 10) ∷ (Scroll, Silence, 10) ∷ (Scroll, Silence, 10) ∷ (Scroll, Silence, 10)
          ∷ (Scroll, Silence, 10) ∷ (Scroll, Silence, 10) ∷ (Scroll, Silence, 10) ∷ (Scroll, Silence, 10)
          ∷ (Scroll, Silence, 10) ∷ (Scroll, Silence, 10) ∷ [],
      [],
      report_of (Stopped Full) 0 10 0 10,
      "     1     9     0    10" ∷ "     2     9     0    10" ∷ "     3     9     0    10" ∷ "     4     9     0    10"
          ∷ "     5     9     0    10" ∷ "     6     9     0    10" ∷ "     7     9     0    10"
          ∷ "     8     9     0    10" ∷ "     9     9     0    10" ∷ "    10     9     0    10"
          ∷ "     9     0    10     0    10" ∷ [],
    )
    ∷ [])

-- How long a buffer is, the answer of writing a sheet of one line, and the buffer after it.
unfoldable pub SheetRooms : Type 0
SheetRooms =
    AllByRecursion {X = ℕ × WriteResult × List ℕ}
    (λ (room, answer, after). (result_of (writing short_sheet room) ≡ answer)
    × (buffer_after (writing short_sheet room) (used room) ≡ after))
    ((31, wrote 31, lines ("     0     1     0     0     3" ∷ [])) ∷ (30, not_written 5, replicate 30 0xa5)
    ∷ (0, not_written 5, []) ∷ (33, wrote 31, lines ("     0     1     0     0     3" ∷ []) ++ bytes "A5A5") ∷ [])
