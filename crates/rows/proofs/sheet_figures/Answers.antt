-- `rows::sheet_figures` meets its contract: the row is tested, then its figures are worked out.
use native.Mathlib.Omega.{arith}
use borrow.Author.Tests.{le-ltb, lt-ltb}
use lib.ListN.{length}
use Rattle.model.specs.Values.{value_of}
use Rattle.model.specs.RowAnswers.{figures_of}
use Rattle.model.proofs.Standing.{rows-counted}
use Rattle.rows.proofs.sheet_figures.Goals as goal

pub returns-then-row-s : goal.returns-then-row-s
unfolding figures_of
returns-then-row-s c =
    let n = rows-counted c.args.s c.requires in
    rw (le-ltb c.args.row (length (value_of c.args.s).head.rows) (omega (arith, c.if-row-s.true)))

pub returns : goal.returns
unfolding figures_of
returns c =
    let n = rows-counted c.args.s c.requires in
    rw (lt-ltb c.args.row (length (value_of c.args.s).head.rows) (omega (arith, c.if-row-s.false)), c.row_alone.ensures)
