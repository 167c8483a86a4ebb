-- `buckets::search::Prices::settled` meets its contract: four looks leave one place.
use native.Mathlib.Omega.{arith}
use Rattle.buckets.proofs.Rounds.{narrows-by-four}
use Rattle.buckets.proofs.search.Prices.settled.Goals as goal

pub returns : goal.returns
returns c =
    narrows-by-four _ _ _ c.requires.1 _ _ _ _ c.unkept-first.ensures c.unkept-second.ensures
    c.unkept-third.ensures c.unkept-fourth.ensures

pub overflow_add-result : goal.overflow_add-result
overflow_add-result c = omega (arith, (returns c).within, c.requires.1)

pub overflow_add-result-2 : goal.overflow_add-result-2
overflow_add-result-2 c = omega (arith, (returns c).within, c.requires.1)

pub overflow_add-result-3 : goal.overflow_add-result-3
overflow_add-result-3 c = omega (arith, (returns c).within, c.requires.1)

pub overflow_add-result-4 : goal.overflow_add-result-4
overflow_add-result-4 c = omega (arith, (returns c).within, c.requires.1)
