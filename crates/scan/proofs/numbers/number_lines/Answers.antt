-- `scan::numbers::number_lines` meets its contract. The loop's invariant: the numbers of the lines passed stand at the front of `out`.
use mathlib.Core.Path.{sym}
use native.Mathlib.Omega.{arith}
use lib.ListN.{length-set}
use Rattle.scan.proofs.LinesPassed.{pass_step, pass_stop, pass_whole, numbers-repeat}
use Rattle.scan.proofs.LinesRead.{exits, line_read, line-place, line-refused}
use Rattle.scan.proofs.NumberLines.{number-bounds}
use Rattle.scan.proofs.numbers.number_lines.Goals as goal

pub returns-in_err-n : goal.returns-in_err-n
returns-in_err-n c =
    let e = exits _ c.in_err-n.field-0.0 c.from_residual.ensures.1 in
    let line = line-refused c.number_line.ensures c.in_err-n.was in
    let r = pass_stop _ _ _ (numbers-repeat _ _ _) _ _ _ _ _ _ _ c.loop-entry.invariant.passed _ (omega arith) line in
    rw e (record { same = sym r; within = omega arith })

pub overflow_cast-entry : goal.overflow_cast-entry
overflow_cast-entry c = omega (arith, number-bounds _ _ _ _ _ _ (line_read c.number_line.ensures c.in_ok-n.was))

pub loop-entry-preserved : goal.loop-entry-preserved
loop-entry-preserved c =
    let r = c.number_line.ensures in
    let i = c.loop-entry.invariant in
    record {
      passed =
          pass_step _ _ _ (numbers-repeat _ _ _) _ _ _ _ _ _ _ i.passed _ _ (omega arith) (line_read r c.in_ok-n.was)
          (line-place r c.in_ok-n.was);
      whole = rw length-set i.whole;
    }

pub returns : goal.returns
returns c =
    let i = c.loop-entry.invariant in
    let e = pass_whole _ _ _ (numbers-repeat _ _ _) _ _ _ _ _ _ _ i.passed (omega arith) (omega (arith, i.whole)) in
    record { same = sym e; within = i.passed.place }
