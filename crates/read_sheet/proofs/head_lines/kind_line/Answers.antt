-- `read_sheet::head_lines::kind_line` meets its contract: the line's value is read as a kind.
use mathlib.Core.Path.{refl}
use Rattle.sheet.specs.Lines.{split_at}
use Rattle.sheet.specs.Values.{kind_line}
use Rattle.scan.proofs.LinesRead.{exits}
use Rattle.read_sheet.proofs.ValueLines.{value-missing, value-refused, value-read}
use Rattle.read_sheet.proofs.head_lines.kind_line.Goals as goal

pub value_line-requires : goal.value_line-requires
unfolding split_at
value_line-requires c = refl

pub returns-in_err-start : goal.returns-in_err-start
unfolding kind_line
returns-in_err-start c =
    let e = exits _ c.in_err-start.field-0.0 c.from_residual.ensures.1 in
    rw e (value-missing _ _ _ _ c.value_line.ensures _ c.in_err-start.was)

pub returns-in_err-kind : goal.returns-in_err-kind
unfolding kind_line
returns-in_err-kind c =
    let e = exits _ c.in_err-kind.field-0.0 c.from_residual-in_err-kind.ensures.1 in
    rw e (value-refused _ _ _ _ c.value_line.ensures _ _ c.in_ok-start.was _ c.kind_value.ensures _ c.in_err-kind.was)

pub returns : goal.returns
unfolding kind_line
returns c = value-read _ _ _ _ c.value_line.ensures _ _ c.in_ok-start.was _ c.kind_value.ensures _ c.in_ok-kind.was
