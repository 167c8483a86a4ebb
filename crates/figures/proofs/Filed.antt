-- Sums over buckets: what is filed up to row r is what the row keeps, and what is filed in all buckets is the whole. So the counts of
-- the buckets add up to the references. Each law holds of every sum g that a bucket can hold.
use Prim.Native.Nat.{ℕ, zero, suc, ◌+◌, ◌*◌, ◌<◌}
use mathlib.Core.Path.{◌≡◌, refl, ◌∙◌}
use mathlib.Core.Bool.{Bool, true, false, cond}
use mathlib.Core.List.{List}
use native.Mathlib.Omega.{arith}
use lib.Dec.{eqb, ltb}
use lib.ListN.{length, get_or}
use borrow.Author.Tests.{le-ltb}
use Rattle.model.specs.Costs.{keeps}
use Rattle.model.specs.Sums.{sum, tabulate}
use Rattle.model.specs.Traces.{Trace, segs, steps, entry, swap_of, touching, over_touches, over_segments, unreferenced, refs_by, refs_of}
use Rattle.model.specs.Figures.{is_reuse, retention_of, kept}
use Rattle.model.specs.Sheets.{RowsWithin, row_in}
use Rattle.model.specs.declared.PriceRow.{PriceRow}
use Rattle.model.proofs.Sums.{sum-none, sum-suc, sum-eq, sum-add, sum-zero, sum-at}
use Rattle.model.proofs.Loads.{over_touches-eq}
use Rattle.buckets.specs.Buckets.{bucket_count, bucket_of, filed, ended, tally_of, bucket_after, no_bucket}
use Rattle.model.proofs.Tables.{get_or-tabulate}
use Rattle.figures.proofs.BucketRows.{bucket-kept, bucket-within}

-- what is at most k is below k or is k
below_suc : (b k x : ℕ) → cond (ltb b k) x 0 + cond (eqb b k) x 0 ≡ cond (ltb b (suc k)) x 0
below_suc b k x =
    omega
    (arith, sum-at k b (λ i. x), sum-at (suc k) b (λ i. x), sum-suc k (λ i. cond (eqb b i) x 0))

-- items x t where p t, each at its place b t: what stands at the places below m, place by place and all at once
pub sorted : (m n : ℕ) (p : ℕ → Bool) (b x : ℕ → ℕ)
    → sum m (λ k. sum n (λ t. cond (p t) (cond (eqb (b t) k) (x t) 0) 0)) ≡ sum n (λ t. cond (p t) (cond (ltb (b t) m) (x t) 0) 0)
sorted zero n p b x =
    omega (
      arith,
      sum-none (λ k. sum n (λ t. cond (p t) (cond (eqb (b t) k) (x t) 0) 0)),
      sum-zero n (λ t. cond (p t) (cond (ltb (b t) 0) (x t) 0) 0) (λ t lt. rw (le-ltb (b t) 0 (omega arith)) (nothing (p t))),
    )
  where
    nothing : (q : Bool) → ◌≡◌ {A = ℕ} (cond q 0 0) 0
    nothing true = refl
    nothing false = refl
sorted (suc m) n p b x =
    let below : ℕ → ℕ = λ t. cond (p t) (cond (ltb (b t) m) (x t) 0) 0 in
    let here : ℕ → ℕ = λ t. cond (p t) (cond (eqb (b t) m) (x t) 0) 0 in
    omega (
      arith,
      sum-suc m (λ k. sum n (λ t. cond (p t) (cond (eqb (b t) k) (x t) 0) 0)),
      sorted m n p b x,
      sum-add n below here,
      sum-eq n (λ t. below t + here t) (λ t. cond (p t) (cond (ltb (b t) (suc m)) (x t) 0) 0) (λ t lt. step (p t) (b t) (x t)),
    )
  where
    step : (q : Bool) (c y : ℕ)
        → cond q (cond (ltb c m) y 0) 0 + cond q (cond (eqb c m) y 0) 0 ≡ cond q (cond (ltb c (suc m)) y 0) 0
    step true c y = below_suc c m y
    step false c y = omega arith

-- the touches in the first m buckets
pub filed-below : (rows : List PriceRow) (T : Trace) (n m : ℕ) (g : ℕ → ℕ → ℕ)
    → sum m (λ k. filed rows T n k g) ≡ sum n (touching T (λ t i. cond (ltb (bucket_of rows T t i) m) (g t i) 0))
unfolding filed touching
filed-below rows T n m g =
    sorted m n (λ t. ltb (entry T t) (segs T)) (λ t. bucket_of rows T t (entry T t)) (λ t. g t (entry T t))

-- the end intervals in the first m buckets
pub ended-below : (rows : List PriceRow) (T : Trace) (n m : ℕ) (g : ℕ → ℕ)
    → sum m (λ k. ended rows T n k g)
    ≡ sum n (λ i. cond (is_reuse (unreferenced T (steps T) i)) (cond (ltb (bucket_of rows T (steps T) i) m) (g i) 0) 0)
unfolding ended
ended-below rows T n m g =
    sorted m n (λ i. is_reuse (unreferenced T (steps T) i)) (λ i. bucket_of rows T (steps T) i) g

module _ (rows : List PriceRow) (up : RowsWithin rows) (T : Trace) where
  -- all buckets together hold every touch
  pub filed-all : (g : ℕ → ℕ → ℕ)
      → sum bucket_count (λ k. filed rows T (steps T) k g) ≡ over_touches T g
  filed-all g =
      filed-below rows T (steps T) bucket_count g
      ∙ over_touches-eq T (λ t i. cond (ltb (bucket_of rows T t i) bucket_count) (g t i) 0) g
      (λ t i lt l touch. rw (bucket-within rows up T t i))

  -- the counts of the buckets add up to the references
  pub counts_add_up : sum bucket_count (λ k. (get_or (tally_of rows T).buckets k no_bucket).count) ≡ refs_of T
  unfolding tally_of bucket_after refs_by
  counts_add_up =
      sum-eq bucket_count
      (λ k. (get_or (tabulate bucket_count (bucket_after rows T (steps T))) k no_bucket).count)
      (λ k. filed rows T (steps T) k (λ t i. 1))
      (λ k lt. rw (get_or-tabulate bucket_count (bucket_after rows T (steps T)) k no_bucket lt))
      ∙ filed-all (λ t i. 1)

  module _ (r : ℕ) (lt : r < length rows) where
    -- the buckets up to row r hold what it keeps
    pub filed-kept : (g : ℕ → ℕ → ℕ)
        → sum (suc r) (λ k. filed rows T (steps T) k g)
        ≡ over_touches T (λ t i. cond (kept T (row_in rows r).h (row_in rows r).d t i) (g t i) 0)
    filed-kept g =
        filed-below rows T (steps T) (suc r) g
        ∙ over_touches-eq T (λ t i. cond (ltb (bucket_of rows T t i) (suc r)) (g t i) 0)
        (λ t i. cond (kept T (row_in rows r).h (row_in rows r).d t i) (g t i) 0)
        (λ t i l m touch. rw (bucket-kept rows up T r lt t i))

    -- so do those of the end intervals
    pub ended-kept : (g : ℕ → ℕ)
        → sum (suc r) (λ k. ended rows T (segs T) k g)
        ≡ over_segments T (λ i. cond (kept T (row_in rows r).h (row_in rows r).d (steps T) i) (g i) 0)
    unfolding kept
    ended-kept g =
        ended-below rows T (segs T) (suc r) g
        ∙ sum-eq (segs T)
        (λ i. cond (is_reuse (unreferenced T (steps T) i)) (cond (ltb (bucket_of rows T (steps T) i) (suc r)) (g i) 0) 0)
        (λ i. cond (kept T (row_in rows r).h (row_in rows r).d (steps T) i) (g i) 0)
        (λ i l.
        rw (bucket-kept rows up T r lt (steps T) i)
        (touched-twice (is_reuse (unreferenced T (steps T) i))
        (keeps ((row_in rows r).d * retention_of T (steps T) i) ((row_in rows r).h * swap_of T i)) (g i)))
      where
        touched-twice : (b k : Bool) (x : ℕ) → cond b (cond (cond b k false) x 0) 0 ≡ cond (cond b k false) x 0
        touched-twice true k x = refl
        touched-twice false k x = refl
