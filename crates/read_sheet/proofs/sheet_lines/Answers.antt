-- `read_sheet::sheet_lines` meets its contract: the head, and the answer to the rest.
use mathlib.Core.Path.{refl, sym}
use native.Mathlib.Omega.{arith}
use Rattle.model.specs.Sheets.{most_segs}
use Rattle.model.proofs.Values.{zeros-length}
use Rattle.sheet.specs.Answers.{answer_of}
use Rattle.sheet.specs.Reading.{at_end}
use Rattle.scan.proofs.LinesRead.{exits}
use Rattle.scan.proofs.Stages.{stage-refused}
use Rattle.read_sheet.proofs.HeadParts.{some_segs}
use Rattle.read_sheet.proofs.sheet_lines.Goals as goal

pub run_lines-requires-clause-steps_blank : goal.run_lines-requires-clause-steps_blank
run_lines-requires-clause-steps_blank c =
    let h = c.in_ok-at.ensures in
    let b = c.requires in
    record {
      some = some_segs _ _ _ _ _ h.filled (sym h.reads.same);
      few = omega (arith, zeros-length most_segs, h.filled.sizes.within);
      idle_all = b.idle_all;
      unmarked = b.unmarked;
    }

pub returns-in_err-at : goal.returns-in_err-at
unfolding answer_of
returns-in_err-at c =
    let e = exits _ c.in_err-at.field-0.0 c.from_residual.ensures.1 in
    rw e (stage-refused (λ q. answer_of (at_end q)) _ _ _ _ refl (sym c.in_err-at.ensures.reads.same))
