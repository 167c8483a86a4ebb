-- The figures on the page are those of the listing.
use Prim.Native.Nat.{ℕ, ◌<◌}
use mathlib.Core.Path.{◌≡◌, ap, ◌∙◌}
use mathlib.Core.List.{[]}
use native.Mathlib.Omega.{arith}
use lib.ListN.{length, get_or}
use Rattle.model.specs.Rows.{row_figures, zero_figures}
use Rattle.model.specs.Sheets.{SheetValue, trace_of, row_at}
use Rattle.model.specs.Sums.{tabulate}
use Rattle.model.specs.RowAnswers.{figures_at}
use Rattle.model.proofs.Tables.{length-tabulate, get_or-tabulate}
use Rattle.page.specs.Page.{row_line, all_lines, line_of_row}
use Rattle.page.proofs.Lines.{row-on-line}

-- row r of a sheet stands on its line with the figures that the listing prints: the columns are h, d, misses, volume, load and mean of them
pub page-prints : (v : SheetValue) (r : ℕ) → r < length v.head.rows
    → get_or (all_lines v.head.kind v.head.a (tabulate (length v.head.rows) (figures_at v))) (line_of_row r) []
    ≡ row_line (row_figures (trace_of v) (row_at v r).h (row_at v r).d)
page-prints v r lt =
    let n = length-tabulate (length v.head.rows) (figures_at v) in
    row-on-line v.head.kind v.head.a (tabulate (length v.head.rows) (figures_at v)) r (omega (arith, n))
    ∙ ap row_line (get_or-tabulate (length v.head.rows) (figures_at v) r zero_figures lt)
