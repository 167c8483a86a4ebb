-- `sheet_plan` meets its contract: the row and the room are tested, and the schedule that is made for the sheet's form is written.
use Prim.Native.Nat.{◌*◌, ◌≤◌, ◌<◌}
use mathlib.Core.Path.{◌≡◌, sym, ap, ◌∙◌}
use native.Mathlib.Omega.{arith}
use borrow.Author.Tests.{ltb-true, ltb-false}
use lib.ListN.{length}
use Rattle.model.specs.Traces.{steps}
use Rattle.model.specs.Values.{value_of}
use Rattle.schedule.proofs.Steps.{steps-taken}
use Rattle.schedule.specs.inner.Runs.{trace}
use Rattle.sheet_schedules.proofs.PlanResults.{plan-no-row, plan-short, plan-placed}
use Rattle.model.proofs.Standing.{rows-counted, steps-counted, row_of, marks-counted, marks-steps}
use Rattle.sheet_schedules.proofs.sheet_plan.Goals.{After-of_sheet-run}
use Rattle.sheet_schedules.proofs.sheet_plan.Goals as goal

-- the place is long enough
room : (c : After-of_sheet-run) → 32 * c.args.s.steps ≤ length c.args.out.now
room c =
    ltb-false (length c.args.out.now) _ (sym c.too_short.ensures ∙ c.if-too_short.false)

-- the run has the sheet's steps
counted : (c : After-of_sheet-run) → steps (trace c.of_sheet-run.result) ≡ c.args.s.steps
counted c = ap steps c.of_sheet-run.ensures ∙ steps-counted c.args.s c.requires

pub returns-then-s-row : goal.returns-then-s-row
returns-then-s-row c =
    let n = rows-counted c.args.s c.requires in
    plan-no-row (value_of c.args.s) c.args.row c.args.out.now (omega (arith, c.if-s-row.true))

pub returns-then-too_short : goal.returns-then-too_short
returns-then-too_short c =
    let n = rows-counted c.args.s c.requires in
    let m = steps-counted c.args.s c.requires in
    let less = ltb-true (length c.args.out.now) _ (sym c.too_short.ensures ∙ c.if-too_short.true) in
    plan-short (value_of c.args.s) c.args.row c.args.out.now (omega (arith, c.if-s-row.false)) (omega (arith, less))

pub write_plan-requires : goal.write_plan-requires
unfolding value_of
write_plan-requires c =
    let x = c.args.s in
    let ok = c.requires in
    let at = (goal.at.write_plan-requires c).After-of_sheet-run in
    record {
      run_within = (rw c.of_sheet-run.ensures ok.valid.run, λ four. marks-counted x ok ∙ marks-steps x ok four ∙ sym (counted at));
      refs_in_bounds = omega (arith, counted at, room at);
    }

pub returns : goal.returns
unfolding value_of
returns c =
    let v = value_of c.args.s in
    let n = rows-counted c.args.s c.requires in
    let m = steps-counted c.args.s c.requires in
    let l : c.args.row < c.args.s.head.rows = omega (arith, c.if-s-row.false) in
    let p = plan-placed v c.args.row c.args.out.now (omega arith) (omega (arith, room (goal.at.returns c).After-of_sheet-run)) in
    record {
      answer_is =
          rw (c.length.ensures.0, steps-taken c.args.s.steps _ (omega (arith, c.requires)) c.of_steps.ensures.exact)
          (rw m at p.answer_is);
      place_is =
          rw (c.of_sheet-run.ensures, counted (goal.at.returns c).After-of_sheet-run) at c.write_plan.ensures
          ∙ rw (m, row_of c.args.s c.requires c.args.row l) at p.place_is;
    }
