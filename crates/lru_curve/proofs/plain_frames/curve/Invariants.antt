-- `lru_curve::plain_frames::curve` meets its contract: the first numbers are those of the frames simulated so far.
use Rattle.lru_curve.proofs.Filling.{Filled}
use Rattle.lru_curve.proofs.plain_frames.curve.Given as goal

abbrev pub invariant-loop-k : goal.invariant-loop-k
invariant-loop-k l = Filled l.sizes l.refs l.initial.place l.place l.k
