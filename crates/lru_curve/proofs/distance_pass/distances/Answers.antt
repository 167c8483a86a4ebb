-- `lru_curve::distance_pass::distances` meets its contract: after each step the list is the recency list, and the counts are those of the
-- steps so far.
use Prim.Native.Nat.{◌<◌}
use mathlib.Core.Path.{refl}
use native.Mathlib.Omega.{arith}
use lib.Seq.{length-take-le}
use Rattle.lru_curve.proofs.Indexes.{looked-at-most}
use Rattle.lru_curve.proofs.Passes.{passed_start, passed_reuse, passed_first, passed_idle, passed_end}
use Rattle.lru_curve.proofs.Passes.{at_room, looked_most}
use Rattle.lru_curve.proofs.distance_pass.distances.Goals.{then-from-sizes+then-p-n, then-from-sizes+else-p-n, else-from-sizes}
use Rattle.lru_curve.proofs.distance_pass.distances.Goals as goal

pub loop-x-init : goal.loop-x-init
loop-x-init c = passed_start c.args.sizes.now c.args.refs.now

pub overflow_add-looked : goal.overflow_add-looked
overflow_add-looked c =
    let l = c.loop-x in
    let front = length-take-le l.n l.list (omega (arith, l.invariant.list_whole, l.invariant.few, c.requires)) in
    omega (
      arith,
      looked_most _ _ _ _ _ _ _ l.invariant c.requires.0 c.requires.1,
      looked-at-most _ _ c.bring-w.ensures.value,
      front,
      l.invariant.few,
      c.requires,
    )

pub overflow_add-at : goal.overflow_add-at
overflow_add-at c =
    let small : c.bring-w.result.before < 256 = omega (arith, c.if-p-n.true, c.loop-x.invariant.few, c.requires) in
    omega (arith, at_room _ _ _ _ _ _ _ c.loop-x.invariant c.requires.0 c.requires.1 c.bring-w.result.before small)

pub loop-x-preserved : goal.loop-x-preserved
loop-x-preserved c =
    let v = c.loop-x.invariant in
    let few = c.requires.0 in
    let short = c.requires.1 in
    let more = c.loop-x-test.true in
    elim c.if-from-sizes.branch [
      | then-from-sizes+then-p-n w ↦
          rw (w.list-is, w.n-is, w.at-is, w.looked-is)
          (passed_reuse _ _ _ _ _ _ _ v few short more _ refl (omega (arith, c.from.ensures, w.if-from-sizes.true))
          w.bring-w.result _ w.bring-w.ensures.value w.bring-w.ensures.list_after w.if-p-n.true)
      | then-from-sizes+else-p-n w ↦
          rw (w.list-is, w.n-is, w.at-is, w.looked-is)
          (passed_first _ _ _ _ _ _ _ v few short more _ refl (omega (arith, c.from.ensures, w.if-from-sizes.true))
          w.bring-w.result _ w.bring-w.ensures.value w.bring-w.ensures.list_after w.if-p-n.false)
      | else-from-sizes w ↦
          rw (w.list-is, w.n-is, w.at-is, w.looked-is)
          (passed_idle _ _ _ _ _ _ _ v few short more (omega (arith, c.from.ensures, w.if-from-sizes.false)))
    ]

pub returns : goal.returns
returns c = passed_end _ _ _ _ _ _ _ c.loop-x.invariant c.requires.0 c.requires.1 c.loop-x-test.false
