-- `exports::operating::segtrace_points` meets its contract: what was told of the answer of the points.
use Rattle.exports.proofs.Told.{place-call}
use Rattle.exports.proofs.operating.segtrace_points.Goals as goal

pub returns : goal.returns
returns c =
    place-call c.points.result c.points.ensures c.tell.ensures
