-- `first_modtotals` meets its contract. The loop's invariant: the modtotals of the rows passed.
use mathlib.Core.Path.{◌≡◌}
use Rattle.model.specs.Sheets.{marks_of}
use Rattle.schedule.specs.inner.Runs.{trace}
use Rattle.store_plan.specs.inner.Modtotals.{first_modtotals}
use Rattle.store_plan.proofs.modtotals.first_modtotals.Given as goal

abbrev pub invariant-loop-r : goal.invariant-loop-r
invariant-loop-r l = l.totals ≡ first_modtotals (trace l.run) (marks_of l.marks) l.prices l.r
