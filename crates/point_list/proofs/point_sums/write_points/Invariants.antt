-- `point_list::point_sums::write_points` meets its contract: the invariant of its loop is `Writing`.
use lib.ListN.{length}
use Rattle.point_list.proofs.Writing.{Writing}
use Rattle.point_list.proofs.point_sums.write_points.Given as goal

abbrev pub invariant-loop-key : goal.invariant-loop-key
invariant-loop-key c =
    Writing c.rs c.ws c.keys c.initial.m.0 c.initial.l.0 (length c.keys) c.initial.out c.out c.r c.w c.m.0 c.l.0 c.q c.at c.key-index
