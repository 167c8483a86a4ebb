-- `lru_curve::distance_pass::curve` meets its contract: the running sum is the number of misses with as many frames as are left.
use native.Mathlib.Omega.{arith}
use Rattle.lru_curve.proofs.Sums.{summed_start, summed_room, summed_next, summed_end}
use Rattle.lru_curve.proofs.distance_pass.curve.Goals as goal

pub loop-k-init : goal.loop-k-init
loop-k-init c = summed_start _ _ _ c.requires.2 c.distances-counts.result c.distances-counts.ensures

pub overflow_add-misses : goal.overflow_add-misses
overflow_add-misses c =
    let d = c.distances-counts in
    omega (
      arith,
      c.requires,
      summed_room _ _ _ c.requires.2 d.result d.ensures c.requires.0 _ _ _ c.loop-k.invariant c.loop-k-test.true,
    )

pub loop-k-preserved : goal.loop-k-preserved
loop-k-preserved c =
    let d = c.distances-counts in
    summed_next _ _ _ c.requires.2 d.result d.ensures c.requires.0 _ _ _ c.loop-k.invariant c.loop-k-test.true

pub returns : goal.returns
returns c =
    let d = c.distances-counts in
    summed_end _ _ _ c.requires.2 d.result d.ensures c.requires.0 _ _ _ c.loop-k.invariant c.loop-k-test.false
