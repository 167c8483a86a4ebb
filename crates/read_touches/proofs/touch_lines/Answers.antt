-- `read_touches::touch_lines` meets its contract. The loop's invariant: the touches of the lines passed are put into the entries and
-- the marks; the short lines at the front are passed before it.
use mathlib.Core.Path.{sym, ap, ◌∙◌}
use native.Mathlib.Omega.{arith}
use Rattle.read_touches.specs.inner.TouchAtPlace.{parsed_touch}
use Rattle.read_touches.proofs.ReadTouches.{touch-within, touches-step, touches-stop, touches-end}
use Rattle.scan.proofs.LinesRead.{exits}
use Rattle.scan.specs.inner.AtPlace.{line_next}
use Rattle.read_touches.proofs.touch_lines.Goals as goal

pub returns-in_err-touch : goal.returns-in_err-touch
returns-in_err-touch c =
    let e = exits _ c.in_err-touch.field-0.0 c.from_residual.ensures.1 in
    let line = sym c.touch_line.ensures.same ∙ ap (parsed_touch _) c.in_err-touch.was in
    rw e (record {
      reads = record { same = sym (touches-stop _ _ _ _ _ _ _ _ _ _ c.loop-i.invariant _ (omega arith) line); within = omega arith };
      unmarked = λ t. c.loop-i.invariant.unmarked t ∙ sym c.requires.unmarked;
    })

pub put-requires : goal.put-requires
put-requires c =
    let i = c.loop-i.invariant in
    let f = touch-within _ _ _ _ _ _ _ (sym c.touch_line.ensures.same ∙ ap (parsed_touch _) c.in_ok-touch.was) in
    (f.0, omega (arith, f, i.whole), omega (arith, f, i.marks_whole))

pub loop-i-preserved : goal.loop-i-preserved
loop-i-preserved c =
    let line = sym c.touch_line.ensures.same ∙ ap (parsed_touch _) c.in_ok-touch.was in
    rw (c.put.ensures.entry, c.put.ensures.mark)
    (touches-step _ _ _ _ _ _ _ _ _ _ c.loop-i.invariant _ _ _ _ (omega arith) line
    (omega (arith, c.touch_line.ensures.within, ap line_next c.in_ok-touch.was)))

pub returns : goal.returns
returns c =
    let e = c.loop-i.invariant in
    record {
      reads = record { same = sym (touches-end _ _ _ _ _ _ _ _ _ _ e (omega arith)); within = e.place };
      unmarked = λ t. e.unmarked t ∙ sym c.requires.unmarked;
    }
