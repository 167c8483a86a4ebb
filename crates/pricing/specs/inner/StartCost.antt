-- What is held before step 1 costs.
use Rattle.std.specs.Prelude.{ℕ, cond, List, length, get_or}
use Rattle.model.specs.Costs.{unit_cost}
use Rattle.model.specs.Sums.{sum}
use Rattle.model.specs.Sheets.{listed}
use Rattle.model.specs.declared.Kind.{Kind}

-- what the warm segments cost for one step
unfoldable pub start_cost : Kind → List ℕ → List ℕ → ℕ
start_cost kind sizes warm = sum (length sizes) (λ i. cond (listed warm i) (unit_cost kind (get_or sizes i 0)) 0)
