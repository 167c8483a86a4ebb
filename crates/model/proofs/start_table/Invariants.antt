-- `model::start_table` meets its contract: the table holds the warm segments passed so far.
use mathlib.Core.Path.{◌≡◌}
use lib.ListN.{take}
use Rattle.model.specs.LastTouches.{start_table}
use Rattle.model.proofs.start_table.Given as goal

abbrev pub invariant-loop-segment : goal.invariant-loop-segment
invariant-loop-segment l = l.last ≡ start_table (take l.segment-index l.warm)
