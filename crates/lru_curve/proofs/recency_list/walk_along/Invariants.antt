-- `lru_curve::recency_list::walk_along` meets its contract: the entries looked at so far are not x, and each is counted.
use mathlib.Core.Path.{◌≡◌}
use Rattle.lru_curve.proofs.Indexes.{PassedBy}
use Rattle.lru_curve.proofs.recency_list.walk_along.Given as goal

abbrev pub invariant-loop-before : goal.invariant-loop-before
invariant-loop-before l = (l.looked ≡ l.before) × PassedBy l.x l.list l.before
