-- `model::untouched` meets its contract.
use borrow.Author.Rules.{rules}
use Rattle.model.specs.LastTouches.{start_table}
use Rattle.model.specs.Sheets.{listed}
use Rattle.model.specs.Sums.{tabulate}
use Rattle.model.proofs.untouched.Goals as goal

pub returns : goal.returns
unfolding start_table listed tabulate
returns c = search rules
