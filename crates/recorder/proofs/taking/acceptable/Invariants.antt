-- `recorder::taking::acceptable` meets its contract. The loop's invariant: the verdict on all references is that on those left.
use Rattle.recorder.proofs.Bulk.{Along}
use Rattle.recorder.proofs.taking.acceptable.Given as goal

abbrev pub invariant-loop-n : goal.invariant-loop-n
invariant-loop-n l = Along l.segs l.count l.refs l.n
