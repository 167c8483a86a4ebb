-- `recorder::guards::sum_first` meets its contract. The loop's invariant: where the sums hold at most 2,048 items, `all` is that of the
-- buckets passed.
use Prim.Native.Nat.{ℕ, ◌≤◌}
use mathlib.Core.Path.{◌≡◌}
use Rattle.model.specs.Sheets.{most_steps}
use Rattle.figures.specs.inner.Sweep.{summed}
use Rattle.figures.specs.inner.OneRow.{Holds}
use Rattle.recorder.proofs.guards.sum_first.Given as goal

abbrev pub invariant-loop-b : goal.invariant-loop-b
invariant-loop-b l = ((m : ℕ) → m ≤ l.n → Holds most_steps (summed l.fn.buckets m)) → l.all ≡ summed l.fn.buckets l.b-index
