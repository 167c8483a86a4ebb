-- `exports::importing::segtrace_import_din` meets its contract: what was told of the answer.
use Rattle.exports.proofs.Told.{place-call}
use Rattle.exports.proofs.importing.segtrace_import_din.Goals as goal

pub returns : goal.returns
returns c =
    place-call c.import_din.result c.import_din.ensures c.tell.ensures
