-- The text of a sheet: its lines, each key=value and a line feed, in document 01's order.
use Rattle.std.specs.Prelude.{ℕ, List}
use Rattle.model.specs.Sheets.{SheetValue}
use Rattle.sheet.specs.Order.{lines_of}
use Rattle.sheet.specs.Parts.{text_of}

-- the bytes of a sheet
unfoldable pub sheet_text : SheetValue → List ℕ
sheet_text v = text_of (lines_of v)
