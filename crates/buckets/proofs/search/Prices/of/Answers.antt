-- `buckets::search::Prices::of` meets its contract.
use borrow.Author.Rules.{rules}
use mathlib.Core.Path.{refl}
use Rattle.buckets.proofs.Prices.{emptied-is}
use Rattle.buckets.proofs.search.Prices.of.Goals as goal

pub returns : goal.returns
returns c =
    rw (emptied-is c.args.count c.args.rows _ (search rules) c.requires (c.fill.ensures.after (λ y e. search rules))) refl
