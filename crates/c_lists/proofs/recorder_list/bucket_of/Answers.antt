-- `c_lists::recorder_list::bucket_of` meets its contract: what is found among all places is found among the rows that the list counts.
use mathlib.Core.Path.{refl}
use Rattle.buckets.proofs.Prices.{found-row, found_none}
use Rattle.c_lists.specs.inner.InPlace.{prices_in}
use Rattle.c_lists.proofs.InPlace.{found-counted}
use Rattle.c_lists.proofs.recorder_list.bucket_of.Goals as goal

pub returns-then-k-list-clause-exact : goal.returns-then-k-list-clause-exact
returns-then-k-list-clause-exact c = λ rows of.
    rw c.in-Some.is
    (found-row (prices_in c.args.list.now) rows of _ _
    (found-counted _ _ _ _ (rw c.prices_in.ensures at c.first_kept-k.ensures)) c.if-k-list.true)

pub returns-else-k-list-clause-exact : goal.returns-else-k-list-clause-exact
returns-else-k-list-clause-exact c = λ rows of.
    rw c.in-Some.is
    (found_none (prices_in c.args.list.now) rows of _ _
    (found-counted _ _ _ _ (rw c.prices_in.ensures at c.first_kept-k.ensures)) c.if-k-list.false)

pub returns-in-None-clause-exact : goal.returns-in-None-clause-exact
returns-in-None-clause-exact c = λ rows of. rw c.in-None.is refl
