-- The modtotals of all rows of a run, as they are held by value, and whether any touch modifies.
use Rattle.std.specs.Prelude.{ℕ, Bool, false, cond, ◌||◌, List, [], ◌∷◌, ltb}
use Rattle.model.specs.Sheets.{row_in, most_rows}
use Rattle.model.specs.Sums.{tabulate}
use Rattle.model.specs.Traces.{Trace}
use Rattle.model.specs.declared.PriceRow.{PriceRow}
use Rattle.stores.specs.Modtotal.{modtotal}

-- one of the marks is set
unfoldable pub some_mark : List Bool → Bool
some_mark [] = false
some_mark (m ∷ ms) = m || some_mark ms

-- modtotal of row r of a run, and those of the first n rows: zeros beyond
abbrev pub modtotal_in : Trace → (ℕ → Bool) → List PriceRow → ℕ → ℕ
modtotal_in T marks rows r = modtotal T marks (row_in rows r).h (row_in rows r).d

unfoldable pub first_modtotals : Trace → (ℕ → Bool) → List PriceRow → ℕ → List ℕ
first_modtotals T marks rows n = tabulate most_rows (λ r. cond (ltb r n) (modtotal_in T marks rows r) 0)
