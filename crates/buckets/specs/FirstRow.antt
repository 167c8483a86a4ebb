-- The first row that keeps a reuse.
use Rattle.std.specs.Prelude.{ℕ, suc, ◌*◌, cond, List, [], ◌∷◌}
use Rattle.model.specs.Costs.{keeps}
use Rattle.model.specs.Sheets.{most_rows}
use Rattle.model.specs.declared.PriceRow.{PriceRow}

-- what stands for no row: the bucket after those of the rows
abbrev pub last_bucket : ℕ
last_bucket = most_rows

-- the first row, counted from r, that keeps a reuse of retention R and swap cost w; the last bucket where none does
unfoldable pub first_row : List PriceRow → ℕ → ℕ → ℕ → ℕ
first_row [] r R w = last_bucket
first_row (q ∷ qs) r R w = cond (keeps (q.d * R) (q.h * w)) r (first_row qs (suc r) R w)
