-- `window_list::window_pass::count_ends` meets its contract: the ends of the segments so far are counted.
use mathlib.Core.Path.{◌≡◌}
use Rattle.window_list.specs.inner.Counts.{with_ends}
use Rattle.window_list.proofs.window_pass.count_ends.Given as goal

abbrev pub invariant-loop-mark : goal.invariant-loop-mark
invariant-loop-mark l = l.counts ≡ with_ends l.initial.counts l.marks l.steps l.mark-index
