-- `Sheet::empty` meets its contract: the arrays of idle entries and of marks are those of the definition.
use mathlib.Core.Path.{ap}
use Rattle.model.specs.Sheets.{most_steps}
use Rattle.model.specs.Values.{empty_sheet, idles, blank_marks}
use Rattle.model.specs.declared.Head.{Head}
use Rattle.model.proofs.Sheet.empty.Goals as goal

pub returns : goal.returns
unfolding empty_sheet idles blank_marks
returns c =
    ap (λ (h : Head). record { form = 0; head = h; steps = 0; touches = idles most_steps; marked = 0; marks = blank_marks most_steps })
    c.empty.ensures
