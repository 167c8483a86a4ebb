-- The sums that the sweep over the rows keeps: one bucket more, and what they are for the buckets of a sheet.
use Prim.Native.Nat.{ℕ, suc, ◌*◌, ◌^◌, ◌≤◌, ◌<◌}
use mathlib.Core.Path.{◌≡◌, refl, sym, ◌∙◌}
use mathlib.Core.Bool.{cond}
use mathlib.Core.List.{List}
use mathlib.Core.Option.{Option, none, some}
use native.Mathlib.Omega.{arith}
use lib.ListN.{length, get_or}
use Rattle.model.specs.Costs.{retention}
use Rattle.model.specs.Sums.{sum, tabulate}
use Rattle.model.specs.Traces.{Trace, segs, steps, size_of, swap_of, over_touches, over_segments}
use Rattle.model.specs.Figures.{of_time, retention_of, kept}
use Rattle.model.specs.Sheets.{RowsWithin, row_in, most_segs, most_steps}
use Rattle.model.specs.declared.Kind.{Kind}
use Rattle.model.specs.declared.Kind.TheVariants.{Time, Space}
use Rattle.model.specs.declared.PriceRow.{PriceRow}
use Rattle.model.proofs.Sums.{sum-eq}
use Rattle.buckets.specs.Buckets.{bucket_count, filed, ended, bucket_after, end_bucket, tally_of, no_bucket}
use Rattle.buckets.specs.inner.Pass.{added, Within}
use Rattle.figures.specs.inner.Sweep.{summed}
use Rattle.figures.specs.inner.OneRow.{by_kind, Holds}
use Rattle.buckets.specs.declared.Bucket.{Bucket}
use Rattle.model.proofs.Tables.{get_or-tabulate}
use Rattle.figures.proofs.Filed.{filed-all, filed-kept, ended-kept}

pub summed-none : (bs : List Bucket) → summed bs 0 ≡ no_bucket
unfolding summed sum
summed-none bs = refl

pub summed-suc : (bs : List Bucket) (n : ℕ) → summed bs (suc n) ≡ added (summed bs n) (get_or bs n no_bucket)
unfolding summed sum
summed-suc bs n = refl

-- a sum of the first n buckets, with the next one added
pub summed-more : (bs : List Bucket) (n : ℕ) {x y : Bucket} → x ≡ summed bs n → y ≡ added x (get_or bs n no_bucket) → y ≡ summed bs (suc n)
summed-more bs n e f = f ∙ rw e (sym (summed-suc bs n))

-- what holds at most 256 items holds at most 2,048
pub holds_more : (b : Bucket) → Holds most_segs b → Holds most_steps b
holds_more b few = omega arith

-- the sums of at most 2,048 items are far below 64 bits
pub holds-within : (b : Bucket) → Holds most_steps b → Within b (2 ^ 63)
holds-within b h = omega arith

-- (u − 1) × z is R × z for kind time and R for kind space
pub space-of : (kind : Kind) (z : ℕ) (o : Option ℕ)
    → of_time (λ k. k * z) o ≡ by_kind kind (of_time (retention kind z) o * z) (of_time (retention kind z) o)
space-of Time z none = omega arith
space-of Time z (some k) = omega arith
space-of Space z none = refl
space-of Space z (some k) = refl

module _ (T : Trace) where
  -- the bucket whose sums S makes of what a touch of segment i in step t adds
  abbrev pub bucket_by : ((ℕ → ℕ → ℕ) → ℕ) → Bucket
  bucket_by S =
      record {
        count = S (λ t i. 1);
        volume = S (λ t i. size_of T i);
        retention = record { 0 = S (λ t i. retention_of T t i) };
        swap = record { 0 = S (λ t i. swap_of T i) };
        retentionz = record { 0 = S (λ t i. retention_of T t i * size_of T i) };
        swapz = record { 0 = S (λ t i. swap_of T i * size_of T i) };
      }

  bucket_by-eq : (S U : (ℕ → ℕ → ℕ) → ℕ) → ((g : ℕ → ℕ → ℕ) → S g ≡ U g) → bucket_by S ≡ bucket_by U
  bucket_by-eq S U eq =
      rw (
        eq (λ t i. 1),
        eq (λ t i. size_of T i),
        eq (λ t i. retention_of T t i),
        eq (λ t i. swap_of T i),
        eq (λ t i. retention_of T t i * size_of T i),
        eq (λ t i. swap_of T i * size_of T i),
      )

  -- the first m of n such buckets, added
  summed_by : (S : ℕ → (ℕ → ℕ → ℕ) → ℕ) (m n : ℕ) → m ≤ n
      → summed (tabulate n (λ k. bucket_by (S k))) m ≡ bucket_by (λ g. sum m (λ k. S k g))
  unfolding summed
  summed_by S m n le =
      rw (
        each (λ b. b.count),
        each (λ b. b.volume),
        each (λ b. b.retention.0),
        each (λ b. b.swap.0),
        each (λ b. b.retentionz.0),
        each (λ b. b.swapz.0),
      )
    where
      each : (f : Bucket → ℕ)
          → sum m (λ k. f (get_or (tabulate n (λ k. bucket_by (S k))) k no_bucket)) ≡ sum m (λ k. f (bucket_by (S k)))
      each f =
          sum-eq m (λ k. f (get_or (tabulate n (λ k. bucket_by (S k))) k no_bucket)) (λ k. f (bucket_by (S k)))
          (λ k lt. rw (get_or-tabulate n (λ k. bucket_by (S k)) k no_bucket (omega arith)))

module _ (rows : List PriceRow) (T : Trace) (m : ℕ) (le : m ≤ bucket_count) where
  -- the first m buckets of a tally, added
  pub summed-buckets : summed (tally_of rows T).buckets m ≡ bucket_by T (λ g. sum m (λ k. filed rows T (steps T) k g))
  unfolding tally_of bucket_after
  summed-buckets = summed_by T (filed rows T (steps T)) m bucket_count le

  -- those of the end intervals
  pub summed-ends : summed (tally_of rows T).ends m ≡ bucket_by T (λ g. sum m (λ k. ended rows T (segs T) k (g (steps T))))
  unfolding tally_of end_bucket
  summed-ends = summed_by T (λ k g. ended rows T (segs T) k (g (steps T))) m bucket_count le

module _ (rows : List PriceRow) (up : RowsWithin rows) (T : Trace) where
  -- all buckets of a sheet's tally hold all touches
  pub all-sums : summed (tally_of rows T).buckets bucket_count ≡ bucket_by T (λ g. over_touches T g)
  all-sums =
      summed-buckets rows T bucket_count (omega arith)
      ∙ bucket_by-eq T (λ g. sum bucket_count (λ k. filed rows T (steps T) k g)) (λ g. over_touches T g) (λ g. filed-all rows up T g)

  module _ (r : ℕ) (lt : r < length rows) where
    -- those up to row r hold what the row keeps
    pub kept-sums : summed (tally_of rows T).buckets (suc r)
        ≡ bucket_by T
        (λ g. over_touches T (λ t i. cond (kept T (row_in rows r).h (row_in rows r).d t i) (g t i) 0))
    kept-sums =
        summed-buckets rows T (suc r) (omega (arith, up.rows_within))
        ∙ bucket_by-eq T (λ g. sum (suc r) (λ k. filed rows T (steps T) k g))
        (λ g. over_touches T (λ t i. cond (kept T (row_in rows r).h (row_in rows r).d t i) (g t i) 0)) (λ g. filed-kept rows up T r lt g)

    -- so do those of the end intervals
    pub ends-sums : summed (tally_of rows T).ends (suc r)
        ≡ bucket_by T
        (λ g. over_segments T
        (λ i. cond (kept T (row_in rows r).h (row_in rows r).d (steps T) i) (g (steps T) i) 0))
    ends-sums =
        summed-ends rows T (suc r) (omega (arith, up.rows_within))
        ∙ bucket_by-eq T (λ g. sum (suc r) (λ k. ended rows T (segs T) k (g (steps T))))
        (λ g. over_segments T (λ i. cond (kept T (row_in rows r).h (row_in rows r).d (steps T) i) (g (steps T) i) 0))
        (λ g. ended-kept rows up T r lt (g (steps T)))
