-- The figures of one row from sums over the buckets, and what those sums must satisfy. Of `Sums`, `all` is the sum of all buckets of the
-- touches and of the swap costs of the warm segments, `kept` that of the buckets up to the row, `ends` that of the end intervals' buckets
-- up to the row: what the row keeps. `cost` is Q and `volume` V of the references.
use Rattle.std.specs.Prelude.{ℕ, ◌+◌, ◌-◌, ◌*◌, ◌/◌, ◌^◌, ◌≤◌, ◌<◌, cond, eqb}
use Rattle.model.specs.Costs.{total_cost}
use Rattle.model.specs.Sheets.{largest_a, most_segs, largest_size, most_steps}
use Rattle.model.specs.declared.Kind.{Kind}
use Rattle.model.specs.declared.Kind.TheVariants.{Time, Space}
use Rattle.model.specs.declared.PriceRow.{PriceRow}
use Rattle.model.specs.declared.RowFigures.{RowFigures}
use Rattle.buckets.specs.declared.Bucket.{Bucket}
use Rattle.figures.specs.declared.row_sums.Sums.{Sums}

-- misses + a × volume of what is not kept
abbrev pub load_from : ℕ → Bucket → Bucket → ℕ
load_from a all kept = (all.count - kept.count) + a * (all.volume - kept.volume)

-- the first number for kind time, the second for kind space
abbrev pub by_kind : Kind → ℕ → ℕ → ℕ
by_kind Time x y = x
by_kind Space x y = y

-- wsmem: d × R of what is kept and h × w of the rest. The end intervals have the swap costs of the first touches and of the warm segments
abbrev pub wsmem_from : PriceRow → Sums → ℕ
wsmem_from row s =
    total_cost row.h row.d (s.cost.0 + s.kept.retention.0 + s.ends.retention.0) (s.all.swap.0 - s.kept.swap.0 - s.ends.swap.0)

-- the same with each item multiplied by z
abbrev pub wsspace_from : PriceRow → Sums → ℕ
wsspace_from row s =
    total_cost row.h row.d (s.volume + s.kept.retentionz.0 + s.ends.retentionz.0) (s.all.swapz.0 - s.kept.swapz.0 - s.ends.swapz.0)

-- wsocc: as wsmem for kind space
abbrev pub wsocc_from : Kind → PriceRow → Sums → ℕ
wsocc_from kind row s = by_kind kind (wsspace_from row s) (wsmem_from row s)

-- mean: 1,000 × wsocc divided by d × steps, rounded down; 0 when steps is 0 (request F-3)
abbrev pub mean_from : ℕ → ℕ → ℕ → ℕ
mean_from refs d wsocc = cond (eqb refs 0) 0 (1000 * wsocc / (d * refs))

-- the figures of a row
unfoldable pub row_from : Kind → ℕ → PriceRow → ℕ → Sums → RowFigures
row_from kind a row refs s =
    record {
      h = row.h;
      d = row.d;
      misses = s.all.count - s.kept.count;
      volume = s.all.volume - s.kept.volume;
      load = record { 0 = load_from a s.all s.kept };
      optmem = record { 0 = s.cost.0 + s.kept.retention.0 };
      opttotal = total_cost row.h row.d (s.cost.0 + s.kept.retention.0) (load_from a s.all s.kept);
      optocc = s.volume + by_kind kind s.kept.retentionz.0 s.kept.retention.0;
      wsmem = wsmem_from row s;
      wsocc = wsocc_from kind row s;
      mean = mean_from refs row.d (wsocc_from kind row s);
    }

-- the largest swap cost, and a number that no retention exceeds
abbrev pub largest_swap : ℕ
largest_swap = 1 + largest_a * largest_size

abbrev pub retention_bound : ℕ
retention_bound = most_steps * largest_size

-- a bucket of at most n items
pub record Holds (n : ℕ) (b : Bucket) : Type 0 where
  pub counts : b.count ≤ n
  pub volumes : b.volume ≤ n * largest_size
  pub retentions : b.retention.0 ≤ n * retention_bound
  pub swaps : b.swap.0 ≤ n * largest_swap
  pub retentionzs : b.retentionz.0 ≤ n * (retention_bound * largest_size)
  pub swapzs : b.swapz.0 ≤ n * (largest_swap * largest_size)

-- what is kept is within the whole: of the swap costs, also together with the end intervals that are kept
pub record KeptWithin (all kept ends : Bucket) : Type 0 where
  pub counts : kept.count ≤ all.count
  pub volumes : kept.volume ≤ all.volume
  pub swaps : kept.swap.0 + ends.swap.0 ≤ all.swap.0
  pub swapzs : kept.swapz.0 + ends.swapz.0 ≤ all.swapz.0

-- the most items of all buckets: the touches, and the warm segments
abbrev pub most_items : ℕ
most_items = most_steps + most_segs

-- sums of which a working set can be made
pub record Summable (s : Sums) : Type 0 where
  pub cost_fits : s.cost.0 ≤ most_steps * largest_size
  pub volume_fits : s.volume ≤ most_steps * largest_size
  pub all_holds : Holds most_items s.all
  pub kept_holds : Holds most_steps s.kept
  pub ends_holds : Holds most_segs s.ends
  pub parts : KeptWithin s.all s.kept s.ends

-- sums from which no figure of the row exceeds 64 bits
pub record RowFits (kind : Kind) (row : PriceRow) (refs : ℕ) (s : Sums) : Type 0 where
  pub summable : Summable s
  pub wsocc_fits : wsocc_from kind row s < 2 ^ 53
  pub some_d : 1 ≤ row.d
  pub refs_fit : refs ≤ most_steps
