-- `margin::sheet_margin` meets its contract: the row and the reference are tested, and the parts of the sheet lent.
use Prim.Native.Nat.{◌≤◌, ◌<◌}
use Rattle.std.specs.Prelude.{Some}
use mathlib.Core.Path.{refl, sym, ap, subst, ◌∙◌}
use native.Mathlib.Omega.{arith}
use lib.ListN.{length}
use Rattle.std.proofs.lemmas.Result.{err_from_is_err_and}
use Rattle.model.specs.Sheets.{trace_of}
use Rattle.model.specs.Values.{head_value_of, value_of}
use Rattle.model.proofs.Standing.{segs-counted, rows-counted, row_of}
use Rattle.model.specs.Margins.{touch_margin}
use Rattle.margin.specs.inner.Times.{PlaceFound}
use Rattle.margin.proofs.MarginResults.{ok-some, err-none, margin-no-row, margin-none, margin-beyond, margin-at}
use Rattle.margin.proofs.Places.{found-touch}
use Rattle.margin.proofs.sheet_margin.Goals.{After-reference_place, In_ok-t}
use Rattle.margin.proofs.sheet_margin.Goals as goal

-- the row is one of the sheet's, the reference counts from 1, and its place was looked for
row_is : (p : After-reference_place) → p.args.row < length (value_of p.args.s).head.rows
row_is p = omega (arith, rows-counted p.args.s p.requires, p.if-head-row.false)

counted : (p : After-reference_place) → 1 ≤ p.args.reference
counted p = omega (arith, p.if-reference-eq0.false)

looked : (p : After-reference_place) → PlaceFound (trace_of (value_of p.args.s)) p.args.reference p.reference_place.result
unfolding value_of
looked p = p.reference_place.ensures (trace_of (value_of p.args.s)) refl (segs-counted p.args.s p.requires)

-- where it was found
found : (c : In_ok-t) → PlaceFound (trace_of (value_of c.args.s)) c.args.reference (Some c.in_ok-t.t)
unfolding value_of
found c =
    subst (PlaceFound (trace_of (value_of c.args.s)) c.args.reference)
    (ok-some _ _ _ (sym c.ok_or.ensures.value ∙ c.in_ok-t.was))
    (c.reference_place.ensures (trace_of (value_of c.args.s)) refl (segs-counted c.args.s c.requires))

pub returns-then-head-row : goal.returns-then-head-row
returns-then-head-row c =
    let n = rows-counted c.args.s c.requires in
    sym (margin-no-row (value_of c.args.s) c.args.row c.args.reference (omega (arith, c.if-head-row.true)))

pub returns-then-reference-eq0 : goal.returns-then-reference-eq0
returns-then-reference-eq0 c =
    let n = rows-counted c.args.s c.requires in
    sym (margin-none (value_of c.args.s) c.args.row c.args.reference (omega (arith, c.if-head-row.false)) c.if-reference-eq0.true)

pub returns-in_err-t : goal.returns-in_err-t
returns-in_err-t c =
    let was = err-none _ _ _ (sym c.ok_or.ensures.value ∙ c.in_err-t.was) in
    let place = (goal.at.returns-in_err-t c).After-reference_place in
    let p = err_from_is_err_and c.from_residual.result c.from_residual.ensures.1 in
    rw (p.1, p.2, was.1)
    (sym (margin-beyond (value_of c.args.s) c.args.row c.args.reference (row_is place) (counted place)
    (subst (PlaceFound (trace_of (value_of c.args.s)) c.args.reference) was.0 (looked place))))

pub touch_margin-requires : goal.touch_margin-requires
unfolding value_of head_value_of
touch_margin-requires c =
    let at = found (goal.at.touch_margin-requires c).In_ok-t in
    record {
      run_within = c.requires.valid.run;
      t_in_bounds = (
        at.0,
        found-touch (trace_of (value_of c.args.s)) _ _ (counted (goal.at.touch_margin-requires c).After-reference_place) at,
      );
    }

pub returns : goal.returns
unfolding value_of head_value_of
returns c =
    let at = found (goal.at.returns c).In_ok-t in
    let place = (goal.at.returns c).After-reference_place in
    let price = row_of c.args.s c.requires c.args.row (omega (arith, c.if-head-row.false)) in
    c.touch_margin.ensures (value_of c.args.s) c.args.row refl price
    ∙ (ap (touch_margin (value_of c.args.s) c.args.row) at.2
    ∙ sym (margin-at (value_of c.args.s) c.args.row c.args.reference (row_is place) (counted place) at.1))
