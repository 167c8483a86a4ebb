-- What is answered for the figures of a row of a sheet, 7 where there is no such row, and the figures of all its rows.
use Rattle.std.specs.Prelude.{ℕ, cond, List, length, ltb, Result, Ok, Err}
use Rattle.model.specs.Sheets.{SheetValue, trace_of, row_in, most_rows}
use Rattle.model.specs.Traces.{Trace}
use Rattle.model.specs.Refusals.{value_or_zero}
use Rattle.model.specs.Rows.{row_figures, zero_figures}
use Rattle.model.specs.declared.PriceRow.{PriceRow}
use Rattle.model.specs.declared.RowFigures.{RowFigures}
use Rattle.model.specs.declared.Refusal.{Refusal}
use Rattle.model.specs.declared.Refusal.TheVariants.{NoSuchRow}
use Rattle.model.specs.Sums.{tabulate}

-- the figures of row r of a run, and those of every row: zeros beyond the rows
abbrev pub figures_in : List PriceRow → Trace → ℕ → RowFigures
figures_in rows T r = row_figures T (row_in rows r).h (row_in rows r).d

unfoldable pub run_figures : List PriceRow → Trace → List RowFigures
run_figures rows T = tabulate most_rows (λ r. cond (ltb r (length rows)) (figures_in rows T r) zero_figures)

-- the figures of row r of a sheet, and those of every row
abbrev pub figures_at : SheetValue → ℕ → RowFigures
figures_at v r = figures_in v.head.rows (trace_of v) r

abbrev pub all_figures : SheetValue → List RowFigures
all_figures v = run_figures v.head.rows (trace_of v)

-- the figures of an answer: all zero beside a refusal
abbrev pub figures_given : Result RowFigures Refusal → RowFigures
figures_given a = value_or_zero zero_figures a

-- the figures of row r of a sheet: 7 where there is no such row
unfoldable pub figures_of : SheetValue → ℕ → Result RowFigures Refusal
figures_of v r = cond (ltb r (length v.head.rows)) (Ok (figures_at v r)) (Err NoSuchRow)
