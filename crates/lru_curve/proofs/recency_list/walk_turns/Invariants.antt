-- `lru_curve::recency_list::walk_turns` meets its contract: the turns passed do not have x, and each of their entries is counted.
use Prim.Native.Nat.{◌-◌, ◌≤◌}
use mathlib.Core.Path.{◌≡◌}
use lib.ListN.{length}
use Rattle.lru_curve.proofs.Indexes.{PassedBy}
use Rattle.lru_curve.proofs.recency_list.walk_turns.Given as goal

abbrev pub invariant-loop-i : goal.invariant-loop-i
invariant-loop-i l = (l.i ≤ length l.list) × (l.total ≡ l.i) × PassedBy l.x l.list l.i

abbrev pub decreases-loop-i : goal.decreases-loop-i
decreases-loop-i l = length l.list - l.i
