-- `lru_curve::recency_list::walk_to` meets its contract: the first n entries are a list by themselves.
use mathlib.Core.Path.{sym}
use lib.Seq.{length-take-le}
use Rattle.lru_curve.proofs.recency_list.walk_to.Goals as goal

pub slice_bounds-first-end : goal.slice_bounds-first-end
slice_bounds-first-end c = sym (length-take-le c.args.n c.args.list.now c.requires)

pub returns : goal.returns
returns c = c.walk_turns.ensures
