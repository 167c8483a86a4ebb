-- `convert::to_form_1` meets its contract: refused where a step is idle, else the sheet in form 1 is written.
use mathlib.Core.Path.{sym, ◌∙◌}
use Rattle.convert.proofs.Idle.{idle-any}
use Rattle.convert.proofs.Results.{first_left, idle-left}
use Rattle.convert.proofs.to_form_1.Goals as goal

pub returns-then-contains : goal.returns-then-contains
returns-then-contains c =
    idle-left c.args.s _ (idle-any _ ∙ sym c.contains.ensures.value ∙ c.if-contains.true)

pub returns : goal.returns
returns c =
    first_left c.args.s (idle-any _ ∙ sym c.contains.ensures.value ∙ c.if-contains.false) c.in_form.ensures c.write.ensures
