-- The 65 buckets: one per row and the last, which the single pass fills. Each reuse, the first touch of a warm segment among them, goes to
-- the first row that keeps it; a reuse that no row keeps, and each other first touch (with retention 0), goes to the last bucket. End
-- intervals are counted apart.
use Rattle.std.specs.Prelude.{ℕ, suc, ◌*◌, cond, List, eqb, replicate}
use Rattle.model.specs.Sums.{sum, tabulate}
use Rattle.model.specs.Traces.{Trace, segs, steps, size_of, swap_of, touching, unreferenced}
use Rattle.model.specs.Figures.{retention_of, is_reuse}
use Rattle.model.specs.declared.PriceRow.{PriceRow}
use Rattle.buckets.specs.FirstRow.{last_bucket, first_row}
use Rattle.buckets.specs.declared.Bucket.{Bucket}
use Rattle.buckets.specs.declared.Tally.{Tally}

-- how many buckets there are
abbrev pub bucket_count : ℕ
bucket_count = suc last_bucket

-- the bucket of a touch of segment i after t steps
unfoldable pub bucket_of : List PriceRow → Trace → ℕ → ℕ → ℕ
bucket_of rows T t i = cond (is_reuse (unreferenced T t i)) (first_row rows 0 (retention_of T t i) (swap_of T i)) last_bucket

-- the sum of g t i over the touches of the first n steps that go to bucket k
unfoldable pub filed : List PriceRow → Trace → ℕ → ℕ → (ℕ → ℕ → ℕ) → ℕ
filed rows T n k g = sum n (touching T (λ t i. cond (eqb (bucket_of rows T t i) k) (g t i) 0))

-- bucket k after n steps: count, volume, retention and swap sums, the last two also with each item multiplied by z
unfoldable pub bucket_after : List PriceRow → Trace → ℕ → ℕ → Bucket
bucket_after rows T n k =
    record {
      count = filed rows T n k (λ t i. 1);
      volume = filed rows T n k (λ t i. size_of T i);
      retention = record { 0 = filed rows T n k (λ t i. retention_of T t i) };
      swap = record { 0 = filed rows T n k (λ t i. swap_of T i) };
      retentionz = record { 0 = filed rows T n k (λ t i. retention_of T t i * size_of T i) };
      swapz = record { 0 = filed rows T n k (λ t i. swap_of T i * size_of T i) };
    }

-- the sum of g i over the first m segments whose end interval goes to bucket k; one that never counts as touched has none
unfoldable pub ended : List PriceRow → Trace → ℕ → ℕ → (ℕ → ℕ) → ℕ
ended rows T m k g =
    sum m (λ i. cond (is_reuse (unreferenced T (steps T) i)) (cond (eqb (bucket_of rows T (steps T) i) k) (g i) 0) 0)

-- bucket k of the end intervals of the first m segments
unfoldable pub end_bucket : List PriceRow → Trace → ℕ → ℕ → Bucket
end_bucket rows T m k =
    record {
      count = ended rows T m k (λ i. 1);
      volume = ended rows T m k (λ i. size_of T i);
      retention = record { 0 = ended rows T m k (λ i. retention_of T (steps T) i) };
      swap = record { 0 = ended rows T m k (λ i. swap_of T i) };
      retentionz = record { 0 = ended rows T m k (λ i. retention_of T (steps T) i * size_of T i) };
      swapz = record { 0 = ended rows T m k (λ i. swap_of T i * size_of T i) };
    }

-- what the single pass hands over: the buckets of the touches and of the end intervals
unfoldable pub tally_of : List PriceRow → Trace → Tally
tally_of rows T =
    record {
      buckets = tabulate bucket_count (bucket_after rows T (steps T));
      ends = tabulate bucket_count (end_bucket rows T (segs T));
    }

-- a bucket that holds nothing
abbrev pub no_bucket : Bucket
no_bucket =
    record {
      count = 0;
      volume = 0;
      retention = record { 0 = 0 };
      swap = record { 0 = 0 };
      retentionz = record { 0 = 0 };
      swapz = record { 0 = 0 };
    }

-- buckets that hold nothing
unfoldable pub all_empty : List Bucket
all_empty = replicate bucket_count no_bucket
