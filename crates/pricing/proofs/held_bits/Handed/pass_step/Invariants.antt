-- `pass_step` meets its contract. The loop's invariant: the segments of the first m words are passed.
use Prim.Native.Nat.{◌*◌}
use Rattle.schedule.specs.inner.Runs.{trace}
use Rattle.pricing.specs.inner.Passing.{SegmentsPassed}
use Rattle.pricing.proofs.held_bits.Handed.pass_step.Given as goal

abbrev pub invariant-loop-m : goal.invariant-loop-m
invariant-loop-m l = SegmentsPassed (trace l.self.run) l.self.schedule.now l.t (64 * l.m) l.left.0
