-- `exports::segtrace_listing` meets its contract: what was told of the listing's answer.
use Rattle.exports.proofs.Told.{place-call}
use Rattle.exports.proofs.segtrace_listing.Goals as goal

pub returns : goal.returns
returns c =
    place-call c.listing.result c.listing.ensures c.tell.ensures
