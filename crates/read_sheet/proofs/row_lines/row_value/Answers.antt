-- `read_sheet::row_lines::row_value` meets its contract: the two sides of the first "/" are read as the two prices.
use mathlib.Core.Path.{◌∙◌}
use Rattle.read_sheet.proofs.ReadRows.{row-value}
use Rattle.read_sheet.proofs.row_lines.row_value.Goals as goal

pub returns-in-Some : goal.returns-in-Some
returns-in-Some c = λ rest.
    c.row_of.ensures rest ∙ row-value _ _ _ _ _ _ c.in-Some.ensures.split c.in-Some.ensures.within c.read-x.ensures c.read-y.ensures
