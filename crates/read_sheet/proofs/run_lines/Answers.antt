-- `read_sheet::run_lines` meets its contract: the entries with their marks, and the end.
use mathlib.Core.Path.{subst}
use Rattle.scan.specs.inner.AtPlace.{Filled}
use Rattle.scan.proofs.LinesRead.{exits}
use Rattle.read_sheet.proofs.Answered.{run-refused, run-unended, run-ended}
use Rattle.read_sheet.proofs.run_lines.Goals as goal

pub returns-in_err-steps : goal.returns-in_err-steps
returns-in_err-steps c =
    let e = exits _ c.in_err-steps.field-0.0 c.from_residual.ensures.1 in
    rw e (run-refused _ _ c.requires.head_filled _ _ c.in_err-steps.ensures.reads.same)

pub returns-then-end-s : goal.returns-then-end-s
returns-then-end-s c = run-unended _ _ c.requires.head_filled _ _ _ _ _ c.in_ok-steps.ensures.reads.same c.if-end-s.true

pub returns : goal.returns
returns c =
    let e = c.in_ok-steps.ensures in
    let p = c.requires.steps_blank in
    rw c.mark_count-sheet.ensures
    (run-ended _ _ c.requires.head_filled _ _ _ _ _ e.reads.same c.if-end-s.false (subst (Filled _ _) p.idle_all e.filled)
    (subst (Filled _ _) p.unmarked e.marked))
