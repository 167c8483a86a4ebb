-- `lru_curve::sheet_curve_plain` meets its contract: the sheet and the place are tested, and the list of the sheet's value is written.
use mathlib.Core.Path.{sym, ◌∙◌}
use Rattle.std.proofs.lemmas.Result.{err_from_is_err_and}
use Rattle.model.specs.Values.{head_value_of, value_of}
use Rattle.model.proofs.Standing.{segs-counted}
use Rattle.lru_curve.proofs.Answers.{asked-is, plain-refused, plain-placed}
use Rattle.lru_curve.proofs.sheet_curve_plain.Goals as goal

pub returns-in_err-curve_verdict : goal.returns-in_err-curve_verdict
returns-in_err-curve_verdict c =
    let p = err_from_is_err_and c.from_residual.result c.from_residual.ensures.1 in
    let asked = asked-is c.args.s c.requires c.args.out.now in
    rw (p.1, p.2) (plain-refused (value_of c.args.s) c.args.out.now _ (sym asked ∙ (sym c.curve_verdict.ensures ∙ c.in_err-curve_verdict.was)))

pub returns : goal.returns
unfolding value_of head_value_of
returns c =
    let n = segs-counted c.args.s c.requires in
    let taken = sym (asked-is c.args.s c.requires c.args.out.now) ∙ (sym c.curve_verdict.ensures ∙ c.in_ok-curve_verdict.was) in
    plain-placed (value_of c.args.s) c.args.out.now taken _ _ (sym n) c.curve.ensures
