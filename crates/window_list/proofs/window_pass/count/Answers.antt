-- `window_list::window_pass::count` meets its contract: its test is that of the definition.
use Prim.Native.Nat.{◌+◌, ◌-◌}
use native.Mathlib.Omega.{arith}
use borrow.Author.Tests.{le-leb, lt-leb}
use Rattle.window_list.specs.inner.Counts.{with_interval}
use Rattle.window_list.proofs.window_pass.count.Goals as goal

pub overflow_add-counts : goal.overflow_add-counts
overflow_add-counts c =
    omega (arith, c.requires.1.1 (c.args.steps - c.args.mark + 1) (omega arith))

pub returns-then-mark-steps : goal.returns-then-mark-steps
unfolding with_interval
returns-then-mark-steps c =
    rw (le-leb c.args.mark c.args.steps (omega arith), c.from-u.ensures)

pub returns-else-mark-steps : goal.returns-else-mark-steps
unfolding with_interval
returns-else-mark-steps c =
    rw (lt-leb c.args.mark c.args.steps (omega arith))
