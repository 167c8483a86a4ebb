-- `pass_word` meets its contract. The loop's invariant: the segments before i are passed, and old and new have the other bits.
use Prim.Native.Nat.{◌+◌, ◌-◌, ◌*◌}
use Rattle.schedule.specs.inner.Runs.{trace}
use Rattle.pricing.proofs.Runs.{Passes}
use Rattle.pricing.proofs.held_bits.Handed.pass_word.Given as goal

abbrev pub invariant-loop-old : goal.invariant-loop-old
invariant-loop-old l =
    Passes (trace l.self.run) l.self.schedule.now l.t (64 * l.m + 64) l.i l.old l.new l.left.0

abbrev pub decreases-loop-old : goal.decreases-loop-old
decreases-loop-old l = 64 * l.m + 64 - l.i
