-- `schedules::modified_schedule` meets its contract: what the sheet reads as decides.
use Rattle.analyser.proofs.Asked.{left-refused, left-accepted}
use Rattle.analyser.specs.Schedules.{modified_result}
use Rattle.model.specs.Values.{value_of}
use Rattle.sheet.proofs.Accepting.{forms-stand, forms-taken}
use Rattle.sheet_schedules.proofs.PlanResults.{plan-is-modified}
use Rattle.stores.specs.Plans.{modified_for}
use native.Mathlib.Omega.{arith}
use Rattle.analyser.proofs.schedules.modified_schedule.Goals as goal

pub sheet_plan-requires : goal.sheet_plan-requires
sheet_plan-requires c = forms-stand 4 4 _ _ c.in_ok-sheet.ensures (omega arith)

pub returns-in_err-sheet : goal.returns-in_err-sheet
unfolding modified_result
returns-in_err-sheet c = left-refused _ (λ v. modified_for v c.args.row) _ _ _ c.from_residual.ensures.1 c.in_err-sheet.ensures

pub returns : goal.returns
unfolding modified_result value_of
returns c =
    let taken = forms-taken 4 4 _ _ c.in_ok-sheet.ensures (omega arith) in
    left-accepted _ (λ v. modified_for v c.args.row) (rw (plan-is-modified (value_of c.in_ok-sheet.sheet) c.args.row taken.0) at c.sheet_plan.ensures) c.in_ok-sheet.ensures
