-- `sheet_price` meets its contract: the row is tested, and the schedule is priced by the sheet's value, with its stores where there are
-- marks.
use Prim.Native.Nat.{◌<◌}
use mathlib.Core.Path.{◌≡◌, sym, ap, ◌∙◌}
use native.Mathlib.Omega.{arith}
use Rattle.model.specs.Sheets.{trace_of, row_at}
use Rattle.model.specs.Values.{value_of}
use Rattle.model.specs.Traces.{steps}
use Rattle.schedule.specs.inner.Runs.{trace}
use Rattle.model.proofs.Standing.{rows-counted, row_of, marks-counted, marks-steps, steps-counted}
use Rattle.pricing.specs.inner.Prices.{price_answer}
use Rattle.stores.specs.Plans.{priced_at, price_for}
use Rattle.std.proofs.lemmas.Result.{err_from_is_err_and}
use Rattle.sheet_schedules.proofs.PlanResults.{price-no-row, price-at}
use Rattle.sheet_schedules.proofs.Prices.{marks-empty, marked-form, plain_at, refusal-stays, marked_at}
use Rattle.sheet_schedules.proofs.sheet_price.Goals.{After-price}
use Rattle.sheet_schedules.proofs.sheet_price.Goals as goal

pub returns-then-s-row : goal.returns-then-s-row
returns-then-s-row c =
    let n = rows-counted c.args.s c.requires in
    sym (price-no-row (value_of c.args.s) c.args.row c.args.schedule.now (omega (arith, c.if-s-row.true)))

-- what pricing without stores gives, by the sheet's value
plain : (c : After-price) → price_answer (trace_of (value_of c.args.s)) (row_at (value_of c.args.s) c.args.row).h
    (row_at (value_of c.args.s) c.args.row).d c.args.schedule.now ≡ c.price.result
plain c =
    rw (row_of c.args.s c.requires c.args.row (omega (arith, c.if-s-row.false)), ← c.of_sheet-run.ensures) (sym c.price.ensures)

-- what is answered at a row that there is
at_row : (c : After-price) → priced_at (value_of c.args.s) c.args.row c.args.schedule.now
    ≡ price_for (value_of c.args.s) c.args.row c.args.schedule.now
at_row c =
    let n = rows-counted c.args.s c.requires in
    sym (price-at (value_of c.args.s) c.args.row c.args.schedule.now (omega (arith, n, c.if-s-row.false)))

pub returns-in_err-plain : goal.returns-in_err-plain
returns-in_err-plain c =
    let p = err_from_is_err_and c.from_residual.result c.from_residual.ensures.1 in
    let at = (goal.at.returns-in_err-plain c).After-price in
    rw (p.1, p.2) (refusal-stays (value_of c.args.s) c.args.row c.args.schedule.now (plain at ∙ c.in_err-plain.was) ∙ at_row at)

pub returns-then-s-eq0 : goal.returns-then-s-eq0
returns-then-s-eq0 c =
    let at = (goal.at.returns-then-s-eq0 c).After-price in
    sym c.in_ok-plain.was
    ∙ sym (plain at)
    ∙ plain_at (value_of c.args.s) c.args.row c.args.schedule.now (marks-empty c.args.s c.if-s-eq0.true)
    ∙ at_row at

pub stores_added-requires-clause-run_within : goal.stores_added-requires-clause-run_within
unfolding value_of
stores_added-requires-clause-run_within c =
    let s = c.args.s in
    let ok = c.requires in
    let steps' : steps (trace c.of_sheet-run.result) ≡ s.steps = ap steps c.of_sheet-run.ensures ∙ steps-counted s ok in (
      rw c.of_sheet-run.ensures ok.valid.run,
      marks-counted s ok ∙ marks-steps s ok (marked-form s ok (omega (arith, c.if-s-eq0.false))) ∙ sym steps',
    )

pub returns : goal.returns
unfolding value_of
returns c =
    let at = (goal.at.returns c).After-price in
    let there' : c.args.row < c.args.s.head.rows = omega (arith, c.if-s-row.false) in
    let q = marked_at (value_of c.args.s) c.args.row c.args.schedule.now (plain at ∙ c.in_ok-plain.was) in
    rw (c.stores_added.ensures, c.of_sheet-run.ensures) ((rw (row_of c.args.s c.requires c.args.row there') at q) ∙ at_row at)
