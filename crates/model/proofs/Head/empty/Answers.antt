-- `Head::empty` meets its contract: the arrays of zeros are those of the definition.
use borrow.Author.Rules.{rules}
use Rattle.model.specs.Values.{empty_head, zeros, zero_rows}
use Rattle.model.proofs.Head.empty.Goals as goal

pub returns : goal.returns
unfolding empty_head zeros zero_rows
returns c = search rules
