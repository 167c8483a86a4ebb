-- `pass::ends` meets its contract. The invariant of its loop is `Ending`.
use mathlib.Core.List.{List}
use mathlib.Core.Path.{◌≡◌}
use Prim.Native.Nat.{ℕ, ◌*◌, ◌^◌, ◌≤◌}
use lib.ListN.{length}
use Rattle.model.specs.Sheets.{RunWithin, run_of}
use Rattle.model.specs.LastTouches.{last_table}
use Rattle.model.specs.declared.Kind.{Kind}
use Rattle.model.specs.declared.PriceRow.{PriceRow}
use Rattle.buckets.specs.declared.Bucket.{Bucket}
use Rattle.buckets.specs.inner.Pass.{Roomy}
use Rattle.buckets.specs.inner.Search.{RowsOf}
use Rattle.buckets.specs.declared.search.Prices.{Prices}
use Rattle.buckets.proofs.Ending.{ends_up_to}
use Rattle.buckets.proofs.pass.ends.Given as goal

-- the end intervals of the first i segments are in the buckets, whose sums have room for the others
pub record Ending (kind : Kind) (a : ℕ) (prices : Prices) (sizes last : List ℕ) (steps : ℕ) (buckets : List Bucket) (i : ℕ) : Type 0 where
  pub within : i ≤ length sizes
  pub roomy : Roomy buckets (i * 2 ^ 48)
  pub ended : (list : List PriceRow) → RowsOf prices list → (warm refs : List ℕ) → length refs ≡ steps
      → RunWithin (run_of kind a sizes warm refs) → last ≡ last_table (run_of kind a sizes warm refs) steps
      → buckets ≡ ends_up_to list (run_of kind a sizes warm refs) i

abbrev pub invariant-loop-z : goal.invariant-loop-z
invariant-loop-z l = Ending l.kind l.a l.prices l.sizes l.last l.steps l.buckets (length l.yielded)
