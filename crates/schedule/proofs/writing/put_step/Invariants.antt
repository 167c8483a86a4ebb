-- `put_step` meets its contract: the invariant of its loop is `Copied`, the measure the bytes that are left.
use Prim.Native.Nat.{◌-◌}
use Rattle.schedule.proofs.Copying.{Copied}
use Rattle.schedule.proofs.writing.put_step.Given as goal

abbrev pub invariant-loop-j : goal.invariant-loop-j
invariant-loop-j l = Copied l.initial.next l.initial.out l.i l.on l.at l.next l.out l.j

abbrev pub decreases-loop-j : goal.decreases-loop-j
decreases-loop-j l = 32 - l.j
