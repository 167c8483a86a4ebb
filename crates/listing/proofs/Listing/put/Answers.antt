-- `listing::Listing::put` meets its contract: the head is put, and then the rows.
use mathlib.Core.Path.{◌≡◌}
use Prim.Native.Nat.{◌+◌}
use native.Mathlib.Omega.{arith}
use lib.ListN.{length}
use Rattle.text.proofs.Putting.{put_then, put_same}
use Rattle.listing.specs.inner.Parts.{head_of, rows_of, text_of}
use Rattle.listing.proofs.ListingParts.{listing-parts, listing-length}
use Rattle.listing.proofs.Listing.put.Goals.{Start}
use Rattle.listing.proofs.Listing.put.Goals as goal

-- how long the text is
whole : (s : Start) → length (text_of s.args.self.now) ≡ length (head_of s.args.self.now) + length (rows_of s.args.self.now)
whole s =
    let a = s.args.self.now in
    listing-length a.form a.refs a.steps a.segs a.figures.now a.modtotals.now

pub put_head-first-requires : goal.put_head-first-requires
put_head-first-requires c = omega (arith, whole (goal.at.put_head-first-requires c).Start)

pub put_rows-requires : goal.put_rows-requires
put_rows-requires c =
    (omega (arith, c.requires), omega (arith, whole (goal.at.put_rows-requires c).Start, c.requires, c.put_head-first.ensures.ends))

pub returns : goal.returns
returns c =
    let a = c.args.self.now in
    put_same (listing-parts a.form a.refs a.steps a.segs a.figures.now a.modtotals.now)
    (put_then c.put_head-first.ensures c.put_rows.ensures)
