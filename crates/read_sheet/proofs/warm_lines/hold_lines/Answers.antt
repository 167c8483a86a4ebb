-- `read_sheet::warm_lines::hold_lines` meets its contract: the segments of the lines passed stand at the front of `out`.
use mathlib.Core.Path.{sym}
use native.Mathlib.Omega.{arith}
use lib.ListN.{length-set}
use Rattle.scan.proofs.LinesPassed.{pass_step, pass_stop, pass_whole}
use Rattle.scan.proofs.LinesRead.{exits, line_read, line-place, line-refused}
use Rattle.read_sheet.proofs.ReadWarm.{hold-bound, holds-repeat}
use Rattle.read_sheet.proofs.warm_lines.hold_lines.Goals as goal

pub returns-in_err-n : goal.returns-in_err-n
returns-in_err-n c =
    let e = exits _ c.in_err-n.field-0.0 c.from_residual.ensures.1 in
    let line = line-refused c.hold_line.ensures c.in_err-n.was in
    let r = pass_stop _ _ _ (holds-repeat _) _ _ _ _ _ _ _ c.loop-place.invariant.passed _ (omega arith) line in
    rw e (record { same = sym r; within = omega arith })

pub overflow_cast-place : goal.overflow_cast-place
overflow_cast-place c = omega (arith, hold-bound _ _ _ _ _ (line_read c.hold_line.ensures c.in_ok-n.was), c.requires)

pub loop-place-preserved : goal.loop-place-preserved
loop-place-preserved c =
    let r = c.hold_line.ensures in
    let i = c.loop-place.invariant in
    record {
      passed =
          pass_step _ _ _ (holds-repeat _) _ _ _ _ _ _ _ i.passed _ _ (omega arith) (line_read r c.in_ok-n.was)
          (line-place r c.in_ok-n.was);
      whole = rw length-set i.whole;
    }

pub returns : goal.returns
returns c =
    let i = c.loop-place.invariant in
    let e = pass_whole _ _ _ (holds-repeat _) _ _ _ _ _ _ _ i.passed (omega arith) (omega (arith, i.whole)) in
    record { same = sym e; within = i.passed.place }
