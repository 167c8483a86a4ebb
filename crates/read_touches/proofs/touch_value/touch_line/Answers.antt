-- `read_touches::touch_value::touch_line` meets its contract: the line's value is read as a touch.
use Prim.Native.Nat.{◌+◌}
use mathlib.Core.Path.{refl, sym, ap, ◌∙◌}
use native.Mathlib.Omega.{arith}
use lib.ListN.{drop}
use Rattle.sheet.specs.Lines.{split_at}
use Rattle.sheet.specs.Touches.{touch_line}
use Rattle.scan.proofs.KeyedLines.{line-missing, line-value, value-within}
use Rattle.scan.proofs.LinesRead.{exits}
use Rattle.read_touches.specs.inner.TouchAtPlace.{touch_before}
use Rattle.read_touches.proofs.touch_value.touch_line.Goals as goal

pub value_line-requires : goal.value_line-requires
unfolding split_at
value_line-requires c = refl

pub returns-in_err-start : goal.returns-in_err-start
unfolding touch_line
returns-in_err-start c =
    let e = exits _ c.in_err-start.field-0.0 c.from_residual.ensures.1 in
    let r = line-missing _ _ _ c.value_line.ensures.same _ _ c.in_err-start.was in
    rw e (record { same = sym r; within = omega arith })

pub returns-in_err-touch : goal.returns-in_err-touch
unfolding touch_line
returns-in_err-touch c =
    let e = exits _ c.in_err-touch.field-0.0 c.from_residual-in_err-touch.ensures.1 in
    let r = line-value _ _ _ c.value_line.ensures.same _ _ _ c.in_ok-start.was in
    let t = c.touch_value.ensures (drop (c.in_ok-start.end + 1) c.args.s.now) in
    rw e (record { same = sym (r ∙ (sym t ∙ ap (λ x. touch_before x (drop (c.in_ok-start.end + 1) c.args.s.now)) c.in_err-touch.was)); within = omega arith })

pub returns : goal.returns
unfolding touch_line
returns c =
    let w = value-within _ _ _ _ c.value_line.ensures.within c.in_ok-start.was in
    let r = line-value _ _ _ c.value_line.ensures.same _ _ _ c.in_ok-start.was in
    let t = c.touch_value.ensures (drop (c.in_ok-start.end + 1) c.args.s.now) in
    record { same = sym (r ∙ (sym t ∙ ap (λ x. touch_before x (drop (c.in_ok-start.end + 1) c.args.s.now)) c.in_ok-touch.was)); within = omega (arith, w) }
