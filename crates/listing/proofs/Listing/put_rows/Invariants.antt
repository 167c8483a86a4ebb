-- `listing::Listing::put_rows` meets its contract. The loop's invariant: the lines of the rows passed are put from `at` on.
use lib.Dec.{leb}
use lib.ListN.{length, take}
use Rattle.text.proofs.Putting.{Filled}
use Rattle.listing.specs.RowListing.{rows_listing}
use Rattle.listing.proofs.Listing.put_rows.Given as goal

abbrev pub invariant-loop-f : goal.invariant-loop-f
invariant-loop-f l =
    let n = length l.yielded in
    Filled n (length l.self.figures.now) (rows_listing (leb 4 l.self.form) (take n l.self.figures.now) l.self.modtotals.now) l.at l.initial.out
    l.next l.out
