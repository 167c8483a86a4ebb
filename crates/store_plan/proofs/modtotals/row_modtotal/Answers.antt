-- `store_plan::modtotals::row_modtotal` meets its contract: what the pass gives is added, and nothing where no touch modifies.
use Prim.Native.Nat.{◌+◌}
use mathlib.Core.Path.{◌≡◌, sym, ◌∙◌}
use native.Mathlib.Omega.{arith}
use Rattle.model.specs.Sheets.{marks_of}
use Rattle.schedule.specs.inner.Runs.{trace}
use Rattle.stores.specs.Modtotal.{modtotal}
use Rattle.store_plan.proofs.RowTotals.{modtotal-adds, modtotal-plain, modtotal-within}
use Rattle.store_plan.proofs.modtotals.row_modtotal.Goals.{After-find}
use Rattle.store_plan.proofs.modtotals.row_modtotal.Goals as goal

adds : (c : After-find) → let a = c.args in
    a.total + c.find.result.added.0 ≡ modtotal (trace c.args.run.now)
    (marks_of a.marks.now) a.row.h a.row.d
adds c =
    modtotal-adds (trace c.args.run.now) c.args.marks.now c.args.row
    c.requires.any_value.1 c.find.ensures.added_is

-- which is within 64 bits
pub overflow_add-result : goal.overflow_add-result
overflow_add-result c =
    let row = c.args.row in
    omega (
      arith,
      adds (goal.at.overflow_add-result c).After-find,
      modtotal-within (trace c.args.run.now) c.requires.run_within.0
          (marks_of c.args.marks.now) row.h row.d (omega (arith, c.ranges))
          (omega (arith, c.ranges)),
    )

pub returns : goal.returns
returns c =
    modtotal-plain (trace c.args.run.now) c.args.marks.now c.args.row
    c.requires.any_value.1 (sym c.requires.any_value.0 ∙ c.if-any.false)

pub returns-then-any : goal.returns-then-any
returns-then-any c = adds (goal.at.returns-then-any c).After-find
