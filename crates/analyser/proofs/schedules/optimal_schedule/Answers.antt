-- `schedules::optimal_schedule` meets its contract: what the sheet reads as decides.
use Rattle.analyser.proofs.Asked.{left-refused, left-accepted}
use Rattle.analyser.specs.Schedules.{schedule_result}
use Rattle.model.specs.Values.{value_of}
use Rattle.sheet.proofs.Accepting.{forms-stand, forms-taken}
use Rattle.sheet_schedules.proofs.PlanResults.{plan-is-schedule}
use Rattle.stores.specs.Plans.{schedule_for}
use native.Mathlib.Omega.{arith}
use Rattle.analyser.proofs.schedules.optimal_schedule.Goals as goal

pub sheet_plan-requires : goal.sheet_plan-requires
sheet_plan-requires c = forms-stand 1 3 _ _ c.in_ok-sheet.ensures (omega arith)

pub returns-in_err-sheet : goal.returns-in_err-sheet
unfolding schedule_result
returns-in_err-sheet c = left-refused _ (λ v. schedule_for v c.args.row) _ _ _ c.from_residual.ensures.1 c.in_err-sheet.ensures

pub returns : goal.returns
unfolding schedule_result value_of
returns c =
    let taken = forms-taken 1 3 _ _ c.in_ok-sheet.ensures (omega arith) in
    left-accepted _ (λ v. schedule_for v c.args.row) (rw (plan-is-schedule (value_of c.in_ok-sheet.sheet) c.args.row taken.1) at c.sheet_plan.ensures) c.in_ok-sheet.ensures
