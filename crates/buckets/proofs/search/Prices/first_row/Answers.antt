-- `buckets::search::Prices::first_row` meets its contract.
use native.Mathlib.Omega.{arith}
use Rattle.buckets.proofs.Prices.{found-row, found_none}
use Rattle.buckets.proofs.search.Prices.first_row.Goals as goal

pub returns-then-k-self : goal.returns-then-k-self
returns-then-k-self c =
    let f = c.first_kept-k.ensures in
    record { within = omega (arith, f.within); exact = λ list of. found-row _ list of _ _ f c.if-k-self.true }

pub returns-else-k-self : goal.returns-else-k-self
returns-else-k-self c =
    let f = c.first_kept-k.ensures in record { within = omega arith; exact = λ list of. found_none _ list of _ _ f c.if-k-self.false }
