-- `lru_curve::plain_frames::simulate` meets its contract: after each step the frames in use have the memory's segments.
use mathlib.Core.Path.{refl}
use native.Mathlib.Omega.{arith}
use lib.Seq.{length-take-le}
use Rattle.lru_curve.proofs.Simulations.{simulated_start, simulated_hit, simulated_miss, simulated_idle, simulated_end}
use Rattle.lru_curve.proofs.Simulations.{missed_within}
use Rattle.lru_curve.proofs.plain_frames.simulate.Goals.{then-from-sizes+in-Some, then-from-sizes+in-None, else-from-sizes}
use Rattle.lru_curve.proofs.plain_frames.simulate.Goals as goal

pub loop-x-init : goal.loop-x-init
loop-x-init c = simulated_start _ _ c.args.k c.requires.1 c.requires.2

pub overflow_add-misses : goal.overflow_add-misses
overflow_add-misses c =
    omega (arith, missed_within _ _ c.args.k c.requires.1 c.requires.2 _ _ _ _ c.loop-x.invariant, c.loop-x.invariant.within, c.requires)

pub loop-x-preserved : goal.loop-x-preserved
loop-x-preserved c =
    let v = c.loop-x.invariant in
    let some = c.requires.1 in
    let within = c.requires.2 in
    let more = c.loop-x-test.true in
    let front = length-take-le c.loop-x.n c.loop-x.frames (omega (arith, v.few, v.list_whole, within)) in
    elim c.if-from-sizes.branch [
      | then-from-sizes+in-Some w ↦
          rw (w.frames-is, w.n-is, w.misses-is)
          (simulated_hit _ _ c.args.k some within _ _ _ _ v more _ refl (omega (arith, c.from.ensures, w.if-from-sizes.true))
          _ (w.in-Some.ensures).1 _ (omega (arith, front, (w.in-Some.ensures).0)) w.to_front.ensures)
      | then-from-sizes+in-None w ↦
          rw (w.frames-is, w.n-is, w.misses-is)
          (simulated_miss _ _ c.args.k some within _ _ _ _ v more _ refl (omega (arith, c.from.ensures, w.if-from-sizes.true))
          _ refl w.min-n.result _ (omega (arith, front, w.in-None.ensures)) w.min-n.ensures w.to_front-in-None.ensures)
      | else-from-sizes w ↦
          rw (w.frames-is, w.n-is, w.misses-is)
          (simulated_idle _ _ c.args.k some within _ _ _ _ v more (omega (arith, c.from.ensures, w.if-from-sizes.false)))
    ]

pub returns : goal.returns
returns c = simulated_end _ _ c.args.k c.requires.1 c.requires.2 _ _ _ _ c.loop-x.invariant c.loop-x-test.false
