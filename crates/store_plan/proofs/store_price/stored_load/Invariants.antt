-- `stored_load` meets its contract: the invariant of its loop is `Storing`.
use Rattle.model.specs.Sheets.{marks_of}
use Rattle.store_plan.proofs.Passing.{Storing}
use Rattle.store_plan.proofs.store_price.stored_load.Given as goal

abbrev pub invariant-loop-t : goal.invariant-loop-t
invariant-loop-t l = Storing l.a l.sizes l.refs (marks_of l.marks) l.schedule l.flags l.load.0 l.t
