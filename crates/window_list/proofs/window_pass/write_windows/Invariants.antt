-- `window_list::window_pass::write_windows` meets its contract: the invariant of its loop is `Filling`.
use mathlib.Core.Path.{◌≡◌}
use lib.ListN.{length}
use Rattle.windows.specs.Windows.{window_run}
use Rattle.window_list.specs.inner.Counts.{interval_counts}
use Rattle.window_list.proofs.Filling.{Filling}
use Rattle.window_list.proofs.window_pass.write_windows.Given as goal

abbrev pub invariant-loop-t : goal.invariant-loop-t
invariant-loop-t l =
    Filling (window_run l.sizes l.refs) l.initial.out l.out l.value l.more l.t ×
    (l.counts ≡ interval_counts (window_run l.sizes l.refs) (length l.sizes))
