-- What the guarded sums of a recorder tell: sums that hold at most 2,048 items leave room for one more.
use Prim.Native.Nat.{ℕ, suc, ◌^◌}
use mathlib.Core.Path.{◌≡◌}
use mathlib.Core.List.{List}
use native.Mathlib.Omega.{arith}
use lib.ListN.{get_or}
use Rattle.model.specs.Sheets.{most_steps}
use Rattle.buckets.specs.inner.Pass.{Within, added}
use Rattle.buckets.specs.Buckets.{no_bucket}
use Rattle.figures.specs.inner.Sweep.{summed}
use Rattle.figures.specs.inner.OneRow.{Holds}
use Rattle.buckets.specs.declared.Bucket.{Bucket}
use Rattle.figures.proofs.Sweeps.{summed-suc, summed-more}

-- two buckets whose sum holds at most 2,048 items have room
added-within : (x y : Bucket) → Holds most_steps (added x y) → Within x (2 ^ 60) × Within y (2 ^ 60)
added-within x y h = (omega arith, omega arith)

-- one bucket more, added with a guard
pub sum_more : (buckets : List Bucket) (k : ℕ) {all next : Bucket} → Holds most_steps (summed buckets (suc k)) → all ≡ summed buckets k
    → (Within all (2 ^ 60) → Within (get_or buckets k no_bucket) (2 ^ 60) → next ≡ added all (get_or buckets k no_bucket))
    → next ≡ summed buckets (suc k)
sum_more buckets k {all} {next} h e joined =
    let holds : Holds most_steps (added all (get_or buckets k no_bucket)) = rw e (rw (summed-suc buckets k) at h) in
    let room = added-within all (get_or buckets k no_bucket) holds in
    summed-more buckets k e (joined room.0 room.1)
