-- `exports::segtrace_page` meets its contract: what was told of the page's answer.
use Rattle.exports.proofs.Told.{place-call}
use Rattle.exports.proofs.segtrace_page.Goals as goal

pub returns : goal.returns
returns c =
    place-call c.page.result c.page.ensures c.tell.ensures
