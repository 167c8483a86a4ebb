-- `figures::rows::start_swaps` meets its contract. The loop's invariant: the sums are those of the warm segments among the first i, and no
-- larger than i times what one adds.
use Prim.Native.Nat.{◌*◌, ◌^◌, ◌≤◌}
use mathlib.Core.Path.{◌≡◌}
use lib.ListN.{length}
use Rattle.figures.specs.inner.Sweep.{swaps_up_to}
use Rattle.figures.proofs.rows.start_swaps.Given as goal

abbrev pub invariant-loop-z : goal.invariant-loop-z
invariant-loop-z l =
    (l.swap.0 ≤ length l.yielded * 2 ^ 25) × (l.swapz.0 ≤ length l.yielded * 2 ^ 41)
    × (record { swap = l.swap; swapz = l.swapz } ≡ swaps_up_to l.a l.sizes l.warm (length l.yielded))
