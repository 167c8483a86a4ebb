-- What the functions of the single pass give: a touch with its bucket, the table of last touches, and buckets filled touch by touch.
use Rattle.std.specs.Prelude.{ℕ, ◌+◌, ◌*◌, ◌^◌, ◌≤◌, ◌<◌, ◌≡◌, cond, List, ◌++◌, length, get_or, Option, None, Some, is_some}
use Rattle.std.proofs.Math.Option.{Option as Maybe, none, some}
use Rattle.model.specs.Costs.{swap_cost, retention}
use Rattle.model.specs.Sums.{tabulate}
use Rattle.model.specs.Traces.{Trace, steps}
use Rattle.model.specs.Figures.{of_time, is_reuse}
use Rattle.model.specs.Sheets.{RowsWithin, RunWithin, run_of, head_run, most_segs, most_rows, most_steps}
use Rattle.model.specs.Values.{head_value_of}
use Rattle.model.specs.declared.Head.{Head}
use Rattle.model.specs.declared.Kind.{Kind}
use Rattle.model.specs.declared.MemoryUnits.{MemoryUnits}
use Rattle.model.specs.declared.PriceRow.{PriceRow}
use Rattle.model.specs.LastTouches.{last_table}
use Rattle.buckets.specs.Buckets.{bucket_count, bucket_after, tally_of, no_bucket}
use Rattle.buckets.specs.FirstRow.{last_bucket, first_row}
use Rattle.buckets.specs.inner.Search.{RowsOf, retained}
use Rattle.buckets.specs.declared.Bucket.{Bucket}
use Rattle.buckets.specs.declared.search.Prices.{Prices}
use Rattle.buckets.specs.declared.pass.Touch.{Touch}
use Rattle.buckets.specs.declared.pass.Passed.{Passed}

-- the retention of a touch of a segment of size z with unreferenced time o; a first touch has none
abbrev pub retention_if : Kind → ℕ → Maybe ℕ → Option MemoryUnits
retention_if kind z none = None
retention_if kind z (some n) = Some (record { 0 = retention kind z n })

-- a touch of a segment of size z with unreferenced time o, or its end interval, before its bucket is looked for: with the last
unfoldable pub unplaced : Kind → ℕ → ℕ → Maybe ℕ → Touch
unplaced kind a z o =
    record {
      size = z;
      retention = retention_if kind z o;
      swap = record { 0 = swap_cost a z };
      bucket = last_bucket;
    }

-- a touch of a segment of size z with unreferenced time o, or its end interval
unfoldable pub touch_of : Kind → ℕ → List PriceRow → ℕ → Maybe ℕ → Touch
touch_of kind a rows z o =
    record {
      size = z;
      retention = retention_if kind z o;
      swap = record { 0 = swap_cost a z };
      bucket = cond (is_reuse o) (first_row rows 0 (of_time (retention kind z) o) (swap_cost a z)) last_bucket;
    }

-- the limits of a touch, whatever the rows
pub record Limited (x : Touch) : Type 0 where
  pub is_bucket : x.bucket ≤ last_bucket
  pub size_within : x.size < 2 ^ 16
  pub retention_within : retained x.retention < 2 ^ 32
  pub swap_within : x.swap.0 < 2 ^ 32

-- a bucket with one more touch
abbrev pub with_touch : Bucket → Touch → Bucket
with_touch b x =
    record {
      count = b.count + 1;
      volume = b.volume + x.size;
      retention = record { 0 = b.retention.0 + retained x.retention };
      swap = record { 0 = b.swap.0 + x.swap.0 };
      retentionz = record { 0 = b.retentionz.0 + retained x.retention * x.size };
      swapz = record { 0 = b.swapz.0 + x.swap.0 * x.size };
    }

-- a bucket with one more end interval; a segment that never counts as touched has none
abbrev pub with_end : Bucket → Touch → Bucket
with_end b x = cond (is_some x.retention) (with_touch b x) b

-- two buckets, each sum added
abbrev pub added : Bucket → Bucket → Bucket
added x y =
    record {
      count = x.count + y.count;
      volume = x.volume + y.volume;
      retention = record { 0 = x.retention.0 + y.retention.0 };
      swap = record { 0 = x.swap.0 + y.swap.0 };
      retentionz = record { 0 = x.retentionz.0 + y.retentionz.0 };
      swapz = record { 0 = x.swapz.0 + y.swapz.0 };
    }

-- every sum of a bucket is within m
pub record Within (b : Bucket) (m : ℕ) : Type 0 where
  pub count : b.count ≤ m
  pub volume : b.volume ≤ m
  pub retention : b.retention.0 ≤ m
  pub swap : b.swap.0 ≤ m
  pub retentionz : b.retentionz.0 ≤ m
  pub swapz : b.swapz.0 ≤ m

-- every sum of every bucket is within m
pub record Roomy (buckets : List Bucket) (m : ℕ) : Type 0 where
  pub each : (k : ℕ) → k ≤ last_bucket → Within (get_or buckets k no_bucket) m

-- a head whose counts are within its arrays, and entries, such as a sheet has
pub record InLimits (head : Head) (refs : List ℕ) : Type 0 where
  pub few_segs : head.segs ≤ most_segs
  pub few_rows : head.rows ≤ most_rows
  pub few_warm : head.warm ≤ most_segs
  pub rows_ok : RowsWithin (head_value_of head).rows
  pub run_ok : RunWithin (head_run (head_value_of head) refs)

-- what the pass has after n steps, and after all
unfoldable pub passed_after : List PriceRow → Trace → ℕ → Passed
passed_after rows T n = record { buckets = tabulate bucket_count (bucket_after rows T n); last = last_table T n }

abbrev pub passed_of : List PriceRow → Trace → Passed
passed_of rows T = passed_after rows T (steps T)

-- what a pass can go on from, whatever it holds: no sum exceeds 64 bits in 2,048 steps; `segs` segments and n + m steps are within the
-- limits
pub record Passable (p : Passed) (segs n m : ℕ) : Type 0 where
  pub roomy : Roomy p.buckets (2 ^ 60)
  pub few_segs : segs ≤ most_segs
  pub few_steps : n + m ≤ most_steps

-- r is what the pass has after all entries of a run, where p is what it has after the first n: those `before`, which are not at hand, and
-- then refs. Of the rows only the prices are at hand, and the warm segments are not
abbrev pub PassedOn : Kind → ℕ → List ℕ → Prices → ℕ → List ℕ → Passed → Passed → Type 0
PassedOn kind a sizes prices n refs p r =
    (rows : List PriceRow) → RowsOf prices rows → (warm before : List ℕ) → length before ≡ n
    → RunWithin (run_of kind a sizes warm (before ++ refs)) → p ≡ passed_after rows (run_of kind a sizes warm (before ++ refs)) n
    → r ≡ passed_of rows (run_of kind a sizes warm (before ++ refs))

-- the buckets of the end intervals of a run with n steps, the entries and warm segments of which are not at hand, where `last` is its table
-- of last touches
abbrev pub EndedAt : Kind → ℕ → List ℕ → Prices → ℕ → List ℕ → List Bucket → Type 0
EndedAt kind a sizes prices n last r =
    (rows : List PriceRow) → RowsOf prices rows → (warm refs : List ℕ) → length refs ≡ n → RunWithin (run_of kind a sizes warm refs)
    → last ≡ last_table (run_of kind a sizes warm refs) n → r ≡ (tally_of rows (run_of kind a sizes warm refs)).ends
