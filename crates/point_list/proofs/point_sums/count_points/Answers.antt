-- `point_list::point_sums::count_points` meets its contract: the invariant of its loop is `Counting`.
use mathlib.Core.Path.{◌∙◌}
use native.Mathlib.Omega.{arith}
use lib.Dec.{eqb}
use Rattle.model.proofs.Bounds.{either-within}
use Rattle.point_list.specs.inner.Walk.{quotient_at}
use Rattle.point_list.proofs.Writing.{ended-most, counting-start, counting-step, not-one}
use Rattle.point_list.proofs.point_sums.count_points.Goals as goal

pub loop-key-init : goal.loop-key-init
loop-key-init c = counting-start

pub overflow_add-count : goal.overflow_add-count
overflow_add-count c =
    let l = c.loop-key in
    let same = eqb (quotient_at c.args.keys.now l.key-index) l.last in
    omega (
      arith,
      l.invariant.count_is,
      ended-most c.args.keys.now l.key-index,
      c.from-count.ensures ∙ not-one same,
      either-within same 0 1 1 (omega arith) (omega arith),
      c.requires,
    )

pub loop-key-preserved : goal.loop-key-preserved
loop-key-preserved c = counting-step c.loop-key.invariant c.loop-key-test.true (c.from-count.ensures ∙ not-one _)
