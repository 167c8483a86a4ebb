-- `exports::curving::segtrace_lru_plain` meets its contract: what was told of the answer of the misses.
use Rattle.exports.proofs.Told.{place-call}
use Rattle.exports.proofs.curving.segtrace_lru_plain.Goals as goal

pub returns : goal.returns
returns c =
    place-call c.lru_plain.result c.lru_plain.ensures c.tell.ensures
