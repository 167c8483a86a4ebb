-- `sizing::sheet_size` meets its contract. The loop's invariant: the row chosen among those passed.
use mathlib.Core.Path.{◌≡◌}
use Rattle.model.specs.Sizing.{chosen_of}
use Rattle.model.specs.Values.{value_of}
use Rattle.rows.proofs.Sizes.{given}
use Rattle.rows.proofs.sizing.sheet_size.Given as goal

abbrev pub invariant-loop-i : goal.invariant-loop-i
invariant-loop-i l = l.chosen ≡ given (chosen_of (value_of l.fn.s) l.ceiling l.i)
