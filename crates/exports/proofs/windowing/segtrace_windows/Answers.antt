-- `exports::windowing::segtrace_windows` meets its contract: what was told of the answer of the windows.
use Rattle.exports.proofs.Told.{place-call}
use Rattle.exports.proofs.windowing.segtrace_windows.Goals as goal

pub returns : goal.returns
returns c =
    place-call c.windows.result c.windows.ensures c.tell.ensures
