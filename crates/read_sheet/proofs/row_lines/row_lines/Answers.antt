-- `read_sheet::row_lines::row_lines` meets its contract: the rows of the lines passed stand at the front of `out`.
use mathlib.Core.Path.{sym}
use native.Mathlib.Omega.{arith}
use lib.ListN.{length-set}
use Rattle.scan.proofs.LinesPassed.{pass_step, pass_stop, pass_whole, rows-repeat}
use Rattle.scan.proofs.LinesRead.{exits, line_read, line-place, line-refused}
use Rattle.read_sheet.proofs.row_lines.row_lines.Goals as goal

pub returns-in_err-row : goal.returns-in_err-row
returns-in_err-row c =
    let e = exits _ c.in_err-row.field-0.0 c.from_residual.ensures.1 in
    let line = line-refused c.row_line.ensures c.in_err-row.was in
    let r = pass_stop _ _ _ rows-repeat _ _ _ _ _ _ _ c.loop-place.invariant.passed _ (omega arith) line in
    rw e (record { same = sym r; within = omega arith })

pub loop-place-preserved : goal.loop-place-preserved
loop-place-preserved c =
    let r = c.row_line.ensures in
    let i = c.loop-place.invariant in
    record {
      passed =
          pass_step _ _ _ rows-repeat _ _ _ _ _ _ _ i.passed _ _ (omega arith) (line_read r c.in_ok-row.was) (line-place r c.in_ok-row.was);
      whole = rw length-set i.whole;
    }

pub returns : goal.returns
returns c =
    let i = c.loop-place.invariant in
    let e = pass_whole _ _ _ rows-repeat _ _ _ _ _ _ _ i.passed (omega arith) (omega (arith, i.whole)) in
    record { same = sym e; within = i.passed.place }
