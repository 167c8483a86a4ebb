-- The figures of a row among those of all rows of a sheet.
use Prim.Native.Nat.{ℕ, ◌≤◌, ◌<◌}
use mathlib.Core.Path.{◌≡◌, ◌∙◌}
use native.Mathlib.Omega.{arith}
use lib.ListN.{length, take, get_or}
use lib.Seq.{length-take-le, get_or-take}
use borrow.Author.Tests.{lt-ltb}
use Rattle.model.specs.Rows.{zero_figures}
use Rattle.model.specs.Sheets.{SheetValue, most_rows}
use Rattle.model.specs.Sums.{tabulate}
use Rattle.model.specs.declared.RowFigures.{RowFigures}
use Rattle.model.proofs.Tables.{length-tabulate, get_or-tabulate, list-tabulate}
use Rattle.model.specs.RowAnswers.{figures_at, run_figures, all_figures}

-- the figures of a row among those of all rows
pub figures-at : (v : SheetValue) (r : ℕ) (d : RowFigures) → r < length v.head.rows → length v.head.rows ≤ most_rows
    → get_or (all_figures v) r d ≡ figures_at v r
unfolding run_figures
figures-at v r d lt most = get_or-tabulate _ _ r d (omega arith) ∙ rw (lt-ltb r (length v.head.rows) lt)

all-length : (v : SheetValue) → length (all_figures v) ≡ most_rows
unfolding run_figures
all-length v = length-tabulate most_rows _

-- the figures of the rows that there are, at the front of those of all rows
pub figures-front : (v : SheetValue) → length v.head.rows ≤ most_rows
    → take (length v.head.rows) (all_figures v) ≡ tabulate (length v.head.rows) (figures_at v)
figures-front v most =
    list-tabulate (length v.head.rows) (figures_at v) (take (length v.head.rows) (all_figures v)) zero_figures
    (length-take-le (length v.head.rows) (all_figures v) (omega (arith, all-length v)))
    (λ j lt. get_or-take (length v.head.rows) (all_figures v) j zero_figures lt ∙ figures-at v j zero_figures lt most)
