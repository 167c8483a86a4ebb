-- `figures::rows::no_figures` meets its contract.
use mathlib.Core.Path.{refl}
use Rattle.model.specs.Sums.{tabulate}
use Rattle.figures.specs.inner.Sweep.{no_row_figures}
use Rattle.figures.proofs.rows.no_figures.Goals as goal

pub returns : goal.returns
unfolding no_row_figures tabulate
returns c = rw c.zero.ensures refl
