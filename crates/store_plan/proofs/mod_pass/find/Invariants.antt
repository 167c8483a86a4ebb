-- `find` meets its contract: the invariant of its loop is `Finding`.
use Rattle.model.specs.Sheets.{marks_of}
use Rattle.schedule.specs.inner.Runs.{trace}
use Rattle.store_plan.proofs.Finding.{Finding}
use Rattle.store_plan.proofs.mod_pass.find.Given as goal

abbrev pub invariant-loop-t : goal.invariant-loop-t
invariant-loop-t l = Finding (trace l.run) (marks_of l.marks) l.row l.decisions l.last l.since l.added l.t
