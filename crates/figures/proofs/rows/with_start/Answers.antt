-- `figures::rows::with_start` meets its contract.
use Rattle.model.proofs.Units.{load_is}
use Rattle.figures.proofs.rows.with_start.Goals as goal

pub returns : goal.returns
returns c = rw (load_is c.plus-b.ensures, load_is c.plus-b-2.ensures)
