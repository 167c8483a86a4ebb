-- `read_sheet::row_lines::row_line` meets its contract: the line's value is read as a row.
use mathlib.Core.Path.{refl}
use Rattle.sheet.specs.Lines.{split_at}
use Rattle.sheet.specs.Values.{row_line}
use Rattle.scan.proofs.LinesRead.{exits}
use Rattle.read_sheet.proofs.ValueLines.{value-missing, value-refused, value-read}
use Rattle.read_sheet.proofs.row_lines.row_line.Goals as goal

pub value_line-requires : goal.value_line-requires
unfolding split_at
value_line-requires c = refl

pub returns-in_err-start : goal.returns-in_err-start
unfolding row_line
returns-in_err-start c =
    let e = exits _ c.in_err-start.field-0.0 c.from_residual.ensures.1 in
    rw e (value-missing _ _ _ _ c.value_line.ensures _ c.in_err-start.was)

pub returns-in_err-row : goal.returns-in_err-row
unfolding row_line
returns-in_err-row c =
    let e = exits _ c.in_err-row.field-0.0 c.from_residual-in_err-row.ensures.1 in
    rw e (value-refused _ _ _ _ c.value_line.ensures _ _ c.in_ok-start.was _ c.row_value.ensures _ c.in_err-row.was)

pub returns : goal.returns
unfolding row_line
returns c = value-read _ _ _ _ c.value_line.ensures _ _ c.in_ok-start.was _ c.row_value.ensures _ c.in_ok-row.was
