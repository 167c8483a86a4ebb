-- `scan::numbers::long_line` meets its contract: the line's value is read as a number.
use mathlib.Core.Path.{sym, ◌∙◌}
use native.Mathlib.Omega.{arith}
use Rattle.sheet.specs.Lines.{number_line}
use Rattle.scan.proofs.KeyedLines.{line-missing, line-value, value-within}
use Rattle.scan.proofs.LinesRead.{exits}
use Rattle.scan.proofs.NumberLines.{number-value, number-refusal}
use Rattle.scan.proofs.numbers.long_line.Goals as goal

pub returns-in_err-start : goal.returns-in_err-start
unfolding number_line
returns-in_err-start c =
    let e = exits _ c.in_err-start.field-0.0 c.from_residual.ensures.1 in
    let r = line-missing _ _ _ c.value_line.ensures.same _ _ c.in_err-start.was in
    rw e (record { same = sym r; within = omega arith })

pub returns-in_err-n : goal.returns-in_err-n
unfolding number_line
returns-in_err-n c =
    let e = exits _ c.in_err-n.field-0.0 c.from_residual-in_err-n.ensures.1 in
    let r = line-value _ _ _ c.value_line.ensures.same _ _ _ c.in_ok-start.was in
    let n = number-refusal _ _ _ _ _ (sym c.number_value.ensures ∙ c.in_err-n.was) in
    rw e (record { same = sym (r ∙ n); within = omega arith })

pub returns : goal.returns
unfolding number_line
returns c =
    let w = value-within _ _ _ _ c.value_line.ensures.within c.in_ok-start.was in
    let r = line-value _ _ _ c.value_line.ensures.same _ _ _ c.in_ok-start.was in
    let n = number-value _ _ _ _ _ (sym c.number_value.ensures ∙ c.in_ok-n.was) in
    record { same = sym (r ∙ n); within = omega (arith, w) }
