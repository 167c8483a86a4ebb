-- A touch goes to a bucket up to row r exactly when row r keeps it, and every touch to one of the 65 buckets.
use Prim.Native.Nat.{ℕ, zero, suc, ◌+◌, ◌*◌, ◌≤◌, ◌<◌}
use mathlib.Core.Path.{◌≡◌, refl, sym, ◌∙◌}
use mathlib.Core.Bool.{Bool, true, false, cond}
use mathlib.Core.List.{List, [], ◌∷◌}
use native.Mathlib.Omega.{arith}
use native.Mathlib.Nat.{zero-add}
use lib.Dec.{ltb}
use lib.ListN.{length}
use borrow.Author.Tests.{lt-ltb, le-ltb}
use Rattle.model.specs.Costs.{keeps}
use Rattle.model.specs.Traces.{Trace, swap_of, unreferenced}
use Rattle.model.specs.Figures.{is_reuse, retention_of, kept}
use Rattle.model.specs.Sheets.{RowsWithin, row_in}
use Rattle.model.specs.declared.PriceRow.{PriceRow}
use Rattle.buckets.specs.Buckets.{bucket_count, bucket_of}
use Rattle.buckets.specs.FirstRow.{last_bucket, first_row}
use Rattle.buckets.specs.inner.Search.{Lasts}
use Rattle.buckets.proofs.FirstRow.{keeps_at, keeps-after}

module _ (R w : ℕ) where
  first-row-within : (rows : List PriceRow) (r : ℕ) → r + length rows ≤ last_bucket
      → (r ≤ first_row rows r R w) × (first_row rows r R w ≤ last_bucket)
  unfolding first_row
  first-row-within [] r fit = omega arith
  first-row-within (q ∷ rows) r fit = go (keeps (q.d * R) (q.h * w)) (first-row-within rows (suc r) (omega arith))
    where
      go : (b : Bool) → (suc r ≤ first_row rows (suc r) R w) × (first_row rows (suc r) R w ≤ last_bucket)
          → (r ≤ cond b r (first_row rows (suc r) R w)) × (cond b r (first_row rows (suc r) R w) ≤ last_bucket)
      go true within = omega arith
      go false within = omega arith

  -- the first row that keeps it is up to row k exactly when row k keeps it
  first-row-below : (rows : List PriceRow) (r k : ℕ) → k < length rows → r + length rows ≤ last_bucket
      → Lasts (keeps_at rows R w) (length rows)
      → ltb (first_row rows r R w) (suc (r + k)) ≡ keeps_at rows R w k
  unfolding first_row
  first-row-below [] r k lt fit last = absurd (omega arith)
  first-row-below (q ∷ rows) r zero lt fit last = go (keeps (q.d * R) (q.h * w))
    where
      go : (b : Bool) → ltb (cond b r (first_row rows (suc r) R w)) (suc (r + 0)) ≡ b
      go true = lt-ltb r (suc (r + 0)) (omega arith)
      go false =
          le-ltb (first_row rows (suc r) R w) (suc (r + 0)) (omega (arith, first-row-within rows (suc r) (omega arith)))
  first-row-below (q ∷ rows) r (suc k) lt fit last =
      go (keeps (q.d * R) (q.h * w)) refl
      (first-row-below rows (suc r) k (omega arith) (omega arith) (λ i j le l. last (suc i) (suc j) (omega arith) (omega arith)))
    where
      go : (b : Bool) → keeps (q.d * R) (q.h * w) ≡ b → ltb (first_row rows (suc r) R w) (suc (suc r + k)) ≡ keeps_at rows R w k
          → ltb (cond b r (first_row rows (suc r) R w)) (suc (r + suc k)) ≡ keeps_at rows R w k
      go true e ih =
          lt-ltb r (suc (r + suc k)) (omega arith) ∙ sym (last 0 (suc k) (omega arith) lt e)
      go false e ih = let same : r + suc k ≡ suc r + k = omega arith in rw same ih

module _ (rows : List PriceRow) (up : RowsWithin rows) (T : Trace) where
  -- a bucket up to row r exactly when row r keeps the touch
  pub bucket-kept : (r : ℕ) → r < length rows → (t i : ℕ)
      → ltb (bucket_of rows T t i) (suc r) ≡ kept T (row_in rows r).h (row_in rows r).d t i
  unfolding bucket_of kept
  bucket-kept r lt t i = go (is_reuse (unreferenced T t i)) (retention_of T t i) (swap_of T i)
    where
      go : (b : Bool) (R w : ℕ)
          → ltb (cond b (first_row rows 0 R w) last_bucket) (suc r) ≡ cond b (keeps ((row_in rows r).d * R) ((row_in rows r).h * w)) false
      go true R w = rw zero-add at (first-row-below R w rows 0 r lt (omega (arith, up.rows_within)) (keeps-after rows up R w))
      go false R w = le-ltb last_bucket (suc r) (omega (arith, up.rows_within))

  -- one of the 65 buckets
  pub bucket-within : (t i : ℕ) → ltb (bucket_of rows T t i) bucket_count ≡ true
  unfolding bucket_of
  bucket-within t i = go (is_reuse (unreferenced T t i)) (retention_of T t i) (swap_of T i)
    where
      go : (b : Bool) (R w : ℕ) → ltb (cond b (first_row rows 0 R w) last_bucket) bucket_count ≡ true
      go true R w =
          lt-ltb (first_row rows 0 R w) bucket_count (omega (arith, first-row-within R w rows 0 (omega (arith, up.rows_within))))
      go false R w = refl
