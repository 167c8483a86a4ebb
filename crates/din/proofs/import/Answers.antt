-- `import` meets its contract: the refusal, or the sheet of the segments found.
use Rattle.model.specs.Values.{blank_marks, zeros}
use Rattle.scan.proofs.LinesRead.{exits}
use Rattle.din.proofs.Answers.{import-few, import-refused, import-taken}
use Rattle.din.proofs.import.Goals as goal

pub ones-sizes-requires : goal.ones-sizes-requires
ones-sizes-requires c = import-few _ _ _ c.trace.ensures _ c.in_ok-found.was

pub returns-in_err-found : goal.returns-in_err-found
returns-in_err-found c =
    let e = exits _ c.in_err-found.field-0.0 c.from_residual.ensures.1 in
    rw e (import-refused _ _ _ c.trace.ensures _ _ c.in_err-found.was)

pub returns : goal.returns
unfolding blank_marks zeros
returns c = import-taken _ _ _ c.trace.ensures _ c.requires _ c.in_ok-found.was _ c.ones-sizes.ensures
