-- What a call that writes row records into a lent list answers, and what it leaves in the list.
use Rattle.model.specs.declared.Refusal.{Refusal}
use Rattle.std.specs.Prelude.{ℕ, cond, List, ◌++◌, length, drop, leb, Result, Ok, Err}
use Rattle.model.specs.Sheets.{SheetValue}
use Rattle.model.specs.declared.Refusal.TheVariants.{PlaceTooShort}
use Rattle.model.specs.declared.RowFigures.{RowFigures}
use Rattle.sheet.specs.Reading.{read_sheet}
use Rattle.model.specs.Sums.{tabulate}
use Rattle.model.specs.RowAnswers.{figures_at}
use Rattle.sheet.specs.Accepting.{on_sheet}

-- the records of a sheet: the figures of each row, in the rows' order
abbrev pub row_records : SheetValue → List RowFigures
row_records v = tabulate (length v.head.rows) (figures_at v)

-- the answer of a sheet for a list of so many records: how many rows it has, or refusal 11
unfoldable pub sheet_answer : SheetValue → ℕ → Result ℕ Refusal
sheet_answer v room =
    cond (leb (length v.head.rows) room) (Ok (length v.head.rows)) (Err PlaceTooShort)

-- the list afterwards: the records and what stood beyond them; as it was where it is shorter than the rows
unfoldable pub sheet_after : SheetValue → List RowFigures → List RowFigures
sheet_after v list = cond (leb (length v.head.rows) (length list)) (row_records v ++ drop (length v.head.rows) list) list

-- what the call answers for bytes and a list: the sheet's refusals, 11
unfoldable pub list_answer : List ℕ → List RowFigures → Result ℕ Refusal
list_answer s list = on_sheet (read_sheet s) Err (λ v. sheet_answer v (length list))

-- and what it leaves in the list: no change where it refuses
unfoldable pub list_after : List ℕ → List RowFigures → List RowFigures
list_after s list = on_sheet (read_sheet s) (λ r. list) (λ v. sheet_after v list)
