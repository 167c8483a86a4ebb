-- `first_modtotals` meets its contract. The loop's invariant: the modtotals of the rows passed.
use mathlib.Core.Path.{◌∙◌}
use native.Mathlib.Omega.{arith}
use Rattle.model.specs.Sheets.{marks_of}
use Rattle.schedule.specs.inner.Runs.{trace}
use Rattle.store_plan.proofs.RowTotals.{modtotals-none, modtotals-next}
use Rattle.store_plan.proofs.modtotals.first_modtotals.Goals as goal

pub loop-r-init : goal.loop-r-init
loop-r-init c =
    c.no_modtotals-totals.ensures ∙ modtotals-none (trace c.args.run.now) (marks_of c.args.marks.now) c.args.prices

pub loop-r-preserved : goal.loop-r-preserved
loop-r-preserved c =
    let l = c.loop-r in
    modtotals-next (trace c.args.run.now) (marks_of c.args.marks.now) c.args.prices l.r c.row_modtotal.result l.totals
    (omega (arith, c.requires.run_within)) l.invariant c.row_modtotal.ensures
