-- `read_sheet::form_line::form_line` meets its contract: the line is read where the bytes begin with its key.
use mathlib.Core.Path.{refl}
use Rattle.sheet.specs.Lines.{split_at}
use Rattle.read_sheet.proofs.form_line.form_line.Goals as goal

pub number_line-requires : goal.number_line-requires
unfolding split_at
number_line-requires c = refl
