-- `read_sheet::form_line::named_form` meets its contract: the number of the form line, or 1.
use mathlib.Core.Path.{refl, ap}
use Rattle.sheet.specs.Lines.{split_at}
use Rattle.sheet.specs.Reading.{form_in, named_form}
use Rattle.read_sheet.proofs.form_line.named_form.Goals as goal

pub number_line-requires : goal.number_line-requires
unfolding split_at
number_line-requires c = refl

pub returns-in-Ok : goal.returns-in-Ok
unfolding named_form
returns-in-Ok c = ap form_in c.in-Ok.ensures.same

pub returns-in-Err : goal.returns-in-Err
unfolding named_form
returns-in-Err c = ap form_in c.in-Err.ensures.same
