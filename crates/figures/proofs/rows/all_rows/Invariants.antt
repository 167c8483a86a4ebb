-- `figures::rows::all_rows` meets its contract. The loop's invariant: `kept` and `ends` are the sums of the buckets passed, and `out` has
-- the figures of the rows passed.
use mathlib.Core.Path.{◌≡◌}
use lib.ListN.{take}
use Rattle.model.specs.Sheets.{run_of}
use Rattle.figures.specs.inner.Sweep.{summed}
use Rattle.figures.proofs.Sweeping.{figures_up_to}
use Rattle.figures.proofs.rows.all_rows.Given as goal

abbrev pub invariant-loop-r : goal.invariant-loop-r
invariant-loop-r l =
    (l.kept ≡ summed l.tally.buckets l.r) × (l.ends ≡ summed l.tally.ends l.r)
    × (l.out ≡ figures_up_to (take l.fn.rows l.fn.prices) (run_of l.kind l.a l.sizes l.warm l.refs) l.r)
