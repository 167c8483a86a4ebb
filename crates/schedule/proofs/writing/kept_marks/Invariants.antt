-- `kept_marks` meets its contract: the invariant of its loop is `Marked`.
use Rattle.schedule.specs.inner.Runs.{trace}
use Rattle.schedule.proofs.Marks.{Marked}
use Rattle.schedule.proofs.writing.kept_marks.Given as goal

abbrev pub invariant-loop-t : goal.invariant-loop-t
invariant-loop-t l = Marked (trace l.run) l.row l.marks l.last l.t
