-- `point_list::point_sums::count_points` meets its contract: the invariant of its loop is `Counting`.
use lib.ListN.{length}
use Rattle.point_list.proofs.Writing.{Counting}
use Rattle.point_list.proofs.point_sums.count_points.Given as goal

abbrev pub invariant-loop-key : goal.invariant-loop-key
invariant-loop-key l = Counting l.keys (length l.keys) l.count l.last l.key-index
