-- `fold` meets its contract: the invariant of its loop is `Folding`.
use Rattle.model.specs.Sheets.{marks_of}
use Rattle.store_plan.proofs.Folding.{Folding}
use Rattle.store_plan.proofs.fold.Given as goal

abbrev pub invariant-loop-t : goal.invariant-loop-t
invariant-loop-t l = Folding l.segments l.refs (marks_of l.marks) l.found l.flags l.on l.t
