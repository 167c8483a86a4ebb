-- `buckets::search::Prices::bucket_of` meets its contract.
use mathlib.Core.Path.{refl}
use Rattle.buckets.proofs.search.Prices.bucket_of.Goals as goal

pub returns-in-Some-clause-exact : goal.returns-in-Some-clause-exact
returns-in-Some-clause-exact c = λ rows of. rw c.in-Some.is (c.first_row.ensures.exact rows of)

pub returns-in-None-clause-exact : goal.returns-in-None-clause-exact
returns-in-None-clause-exact c = λ rows of. rw c.in-None.is refl
