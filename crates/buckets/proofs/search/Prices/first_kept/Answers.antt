-- `buckets::search::Prices::first_kept` meets its contract: the last round leaves one place.
use native.Mathlib.Omega.{arith}
use Rattle.buckets.proofs.Rounds.{found-any, found-one, found-next}
use Rattle.buckets.proofs.search.Prices.first_kept.Goals as goal

pub returns-then-self-le1 : goal.returns-then-self-le1
returns-then-self-le1 c = found-one _ _ _ c.if-self-le1.true _ c.unkept.ensures

pub narrowed-of_sixteen-requires : goal.narrowed-of_sixteen-requires
narrowed-of_sixteen-requires c = (c.requires, omega arith, found-any _ _ _)

pub returns : goal.returns
returns c = found-next _ _ _ _ _ _ _ c.narrowed-of_four.ensures c.settled.ensures
