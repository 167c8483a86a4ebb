-- `exports::segtrace_to_form_1` meets its contract: what was told of the converter's answer.
use Rattle.exports.proofs.Told.{place-call}
use Rattle.exports.proofs.segtrace_to_form_1.Goals as goal

pub returns : goal.returns
returns c =
    place-call c.to_form_1.result c.to_form_1.ensures c.tell.ensures
