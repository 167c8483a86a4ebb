-- `lru_curve::plain_frames::curve` meets its contract: the first numbers are those of the frames simulated so far.
use Rattle.lru_curve.proofs.Filling.{filled_next, filled_end}
use Rattle.lru_curve.proofs.plain_frames.curve.Goals as goal

pub loop-k-preserved : goal.loop-k-preserved
loop-k-preserved c =
    filled_next _ _ _ c.requires.2 _ _ c.loop-k.invariant c.simulate.result c.loop-k-test.true c.simulate.ensures

pub returns : goal.returns
returns c = filled_end _ _ _ c.requires.2 _ _ c.loop-k.invariant c.loop-k-test.false
