-- What `all_records` answers: the records to be written, by value; and the list that `filled_list` begins with.
use Rattle.std.specs.Prelude.{ℕ, cond, List, length, leb, Result, Ok, Err}
use Rattle.model.specs.Rows.{zero_figures}
use Rattle.model.specs.Sheets.{SheetValue, most_rows}
use Rattle.model.specs.Sums.{tabulate}
use Rattle.model.specs.declared.Refusal.{Refusal}
use Rattle.model.specs.declared.Refusal.TheVariants.{PlaceTooShort}
use Rattle.model.specs.declared.RowFigures.{RowFigures}
use Rattle.sheet.specs.Accepting.{on_sheet}
use Rattle.sheet.specs.Reading.{read_sheet}
use Rattle.model.specs.RowAnswers.{all_figures}
use Rattle.row_records.specs.declared.Records.{Records}

-- a list of as many records as a sheet can have rows, all zero
unfoldable pub zero_list : List RowFigures
zero_list = tabulate most_rows (λ i. zero_figures)

-- the records of a sheet for a list of so many, as they are held by value, or refusal 11
unfoldable pub records_for : SheetValue → ℕ → Result Records Refusal
records_for v room =
    cond (leb (length v.head.rows) room) (Ok (record { count = length v.head.rows; figures = all_figures v })) (Err PlaceTooShort)

-- the records of the sheet that the bytes stand for
unfoldable pub records_found : List ℕ → ℕ → Result Records Refusal
records_found s room = on_sheet (read_sheet s) Err (λ v. records_for v room)
