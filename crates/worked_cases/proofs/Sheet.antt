-- The listings, computed. Assumes nothing.
use Rattle.std.specs.Fmt.{digits}
use Rattle.sheet.specs.Sheets.{columns}
use Rattle.worked_cases.specs.Sheet.{Columns, SheetsPrinted, SheetRooms}

pub columns_listed : Columns
unfolding Columns digits
columns_listed = search

pub sheets_printed : SheetsPrinted
unfolding SheetsPrinted columns digits
sheets_printed = search

pub sheet_rooms : SheetRooms
unfolding SheetRooms columns digits
sheet_rooms = search
