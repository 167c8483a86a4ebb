-- The sums over the buckets that the figures of a row are made of, those of the warm segments, and what they belong to.
use Rattle.std.specs.Prelude.{ℕ, ◌+◌, ◌*◌, ◌≡◌, cond, List, length, get_or}
use Rattle.model.specs.Costs.{swap_cost}
use Rattle.model.specs.Sums.{sum, tabulate}
use Rattle.model.specs.Traces.{Trace}
use Rattle.model.specs.Rows.{zero_figures}
use Rattle.model.specs.Sheets.{RowsWithin, RunWithin, listed, most_rows}
use Rattle.model.specs.declared.PriceRow.{PriceRow}
use Rattle.model.specs.declared.RowFigures.{RowFigures}
use Rattle.buckets.specs.Buckets.{no_bucket, tally_of}
use Rattle.buckets.specs.declared.Bucket.{Bucket}
use Rattle.buckets.specs.declared.Tally.{Tally}
use Rattle.figures.specs.declared.rows.StartSwaps.{StartSwaps}

-- the first n buckets of a list, added
unfoldable pub summed : List Bucket → ℕ → Bucket
summed bs n =
    record {
      count = sum n (λ k. (get_or bs k no_bucket).count);
      volume = sum n (λ k. (get_or bs k no_bucket).volume);
      retention = record { 0 = sum n (λ k. (get_or bs k no_bucket).retention.0) };
      swap = record { 0 = sum n (λ k. (get_or bs k no_bucket).swap.0) };
      retentionz = record { 0 = sum n (λ k. (get_or bs k no_bucket).retentionz.0) };
      swapz = record { 0 = sum n (λ k. (get_or bs k no_bucket).swapz.0) };
    }

-- the sum of g i over the first n segments i that are warm
unfoldable pub warm_sum : List ℕ → ℕ → (ℕ → ℕ) → ℕ
warm_sum warm n g = sum n (λ i. cond (listed warm i) (g i) 0)

-- the swap costs of the warm segments among the first n, added, and the same with each multiplied by z
unfoldable pub swaps_up_to : ℕ → List ℕ → List ℕ → ℕ → StartSwaps
swaps_up_to a sizes warm n =
    record {
      swap = record { 0 = warm_sum warm n (λ i. swap_cost a (get_or sizes i 0)) };
      swapz = record { 0 = warm_sum warm n (λ i. swap_cost a (get_or sizes i 0) * get_or sizes i 0) };
    }

-- those of all warm segments
abbrev pub start_swaps : ℕ → List ℕ → List ℕ → StartSwaps
start_swaps a sizes warm = swaps_up_to a sizes warm (length sizes)

-- a bucket with the swap costs of the start set, also multiplied by z; they are no touches
abbrev pub with_start : StartSwaps → Bucket → Bucket
with_start start b =
    record {
      count = b.count;
      volume = b.volume;
      retention = b.retention;
      swap = record { 0 = b.swap.0 + start.swap.0 };
      retentionz = b.retentionz;
      swapz = record { 0 = b.swapz.0 + start.swapz.0 };
    }

-- no row has figures yet
unfoldable pub no_row_figures : List RowFigures
no_row_figures = tabulate most_rows (λ r. zero_figures)

-- a tally that belongs to rows and a run within the limits
pub record Tallied (rows : List PriceRow) (T : Trace) (tally : Tally) : Type 0 where
  pub rows_ok : RowsWithin rows
  pub run_ok : RunWithin T
  pub is_tally : tally ≡ tally_of rows T
