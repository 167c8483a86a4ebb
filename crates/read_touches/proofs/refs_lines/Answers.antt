-- `read_touches::refs_lines` meets its contract: the count, and then so many touches into the entries and the marks.
use mathlib.Core.Path.{refl}
use Rattle.sheet.specs.Lines.{split_at}
use Rattle.read_touches.proofs.refs_lines.Goals as goal

pub number_line-requires : goal.number_line-requires
unfolding split_at
number_line-requires c = refl
