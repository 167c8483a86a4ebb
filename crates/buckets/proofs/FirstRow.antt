-- The first row that keeps a reuse: along ascending thresholds the rows that keep it are the last ones.
use Prim.Native.Nat.{ℕ, zero, suc, ◌+◌, ◌*◌, ◌≤◌, ◌<◌}
use mathlib.Core.Path.{◌≡◌, refl, ◌∙◌}
use mathlib.Core.Logic.{⊎_elim}
use mathlib.Core.Bool.{Bool, true, false}
use mathlib.Core.List.{List, [], ◌∷◌}
use native.Mathlib.Omega.{arith}
use native.Mathlib.Nat.{le_of_lt}
use lib.ListN.{length}
use borrow.Author.Tests.{le-leb, leb-true}
use Rattle.model.specs.Costs.{keeps}
use Rattle.model.specs.declared.PriceRow.{PriceRow}
use Rattle.model.proofs.Sums.{last-or-below}
use Rattle.model.proofs.Ascent.{cross-trans}
use Rattle.buckets.specs.FirstRow.{first_row, last_bucket}
use Rattle.model.specs.Sheets.{RowsWithin, row_in}

-- row k keeps a reuse of retention R and swap cost w
abbrev pub keeps_at : List PriceRow → ℕ → ℕ → ℕ → Bool
keeps_at rows R w k = keeps ((row_in rows k).d * R) ((row_in rows k).h * w)

-- what a row keeps, each later row keeps
pub keeps-after : (rows : List PriceRow) → RowsWithin rows → (R w q r : ℕ) → q ≤ r → r < length rows
    → keeps_at rows R w q ≡ true → keeps_at rows R w r ≡ true
keeps-after rows up R w q zero le lt e = let same : q ≡ 0 = omega arith in rw same at e
keeps-after rows up R w q (suc r) le lt e =
    ⊎_elim
    (λ same. rw same at e)
    (λ l.
    let p = row_in rows r in
    let n = row_in rows (suc r) in
    let before = keeps-after rows up R w q r (omega arith) (omega arith) e in
    le-leb (n.d * R) (n.h * w)
    (cross-trans p.h p.d n.h n.d R w (up.some_d r (omega arith)) (le_of_lt (up.ascending r lt))
    (leb-true (p.d * R) (p.h * w) before)))
    (last-or-below (suc r) q (omega arith))

-- row k keeps it and none before does
pub first-row-found : (rows : List PriceRow) (r R w k : ℕ) → k < length rows → ((j : ℕ) → j < k → keeps_at rows R w j ≡ false)
    → keeps_at rows R w k ≡ true → first_row rows r R w ≡ r + k
unfolding first_row
first-row-found [] r R w k lt below here = absurd (omega arith)
first-row-found (q ∷ rows) r R w zero lt below here = rw here (omega arith)
first-row-found (q ∷ rows) r R w (suc k) lt below here =
    rw (below 0 (omega arith))
    (first-row-found rows (suc r) R w k (omega arith) (λ j l. below (suc j) (omega arith)) here ∙ omega arith)

-- no row keeps it
pub first-row-none : (rows : List PriceRow) (r R w : ℕ) → ((j : ℕ) → j < length rows → keeps_at rows R w j ≡ false)
    → first_row rows r R w ≡ last_bucket
unfolding first_row
first-row-none [] r R w below = refl
first-row-none (q ∷ rows) r R w below =
    rw (below 0 (omega arith)) (first-row-none rows (suc r) R w (λ j l. below (suc j) (omega arith)))
