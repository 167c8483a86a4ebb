-- `exports::pairing::segtrace_join` meets its contract: what was told of the answer.
use Rattle.exports.proofs.Told.{place-call}
use Rattle.exports.proofs.pairing.segtrace_join.Goals as goal

pub returns : goal.returns
returns c =
    place-call c.join.result c.join.ensures c.tell.ensures
