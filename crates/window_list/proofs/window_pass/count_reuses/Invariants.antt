-- `window_list::window_pass::count_reuses` meets its contract: the invariant of its loop is `Passing`.
use Rattle.windows.specs.Windows.{window_run}
use Rattle.window_list.proofs.Counting.{Passing}
use Rattle.window_list.proofs.window_pass.count_reuses.Given as goal

abbrev pub invariant-loop-t : goal.invariant-loop-t
invariant-loop-t l = Passing (window_run l.sizes l.refs) l.counts l.touches l.last l.t
