-- `write_decided` meets its contract: the invariant of its loop is `Filling`, the measure the steps that are left.
use Rattle.schedule.proofs.Filling.{Filling}
use Rattle.schedule.proofs.writing.write_decided.Given as goal

abbrev pub invariant-loop-t : goal.invariant-loop-t
invariant-loop-t l = Filling l.segments l.refs l.decisions l.initial.out l.next l.out l.t

abbrev pub decreases-loop-t : goal.decreases-loop-t
decreases-loop-t l = l.t
