-- `convert::to_form_2` meets its contract: the sheet in form 2 is written.
use Rattle.convert.proofs.Results.{later-left}
use Rattle.convert.proofs.to_form_2.Goals as goal

pub returns : goal.returns
returns c =
    later-left c.args.s c.in_form.ensures c.write.ensures
