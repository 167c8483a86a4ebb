-- `lru_curve::plain_frames::simulate` meets its contract: after each step the frames in use have the memory's segments.
use Rattle.lru_curve.proofs.Simulations.{Simulated}
use Rattle.lru_curve.proofs.plain_frames.simulate.Given as goal

abbrev pub invariant-loop-x : goal.invariant-loop-x
invariant-loop-x l = Simulated l.sizes l.refs l.k l.frames l.n l.misses l.x-index
