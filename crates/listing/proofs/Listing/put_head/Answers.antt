-- `listing::Listing::put_head` meets its contract: the lines are put one after another.
use native.Mathlib.Omega.{arith}
use lib.ListN.{length}
use Rattle.text.proofs.Putting.{put_then}
use Rattle.listing.specs.inner.Parts.{head_text}
use Rattle.listing.proofs.ListingParts.{head-length}
use Rattle.listing.proofs.Listing.put_head.Goals as goal

pub put_counts-third-requires : goal.put_counts-third-requires
put_counts-third-requires c =
    let a = c.args.self.now in
    omega (arith, head-length a.form a.refs a.steps a.segs (length a.figures.now))

pub put_number-fourth-requires : goal.put_number-fourth-requires
put_number-fourth-requires c =
    let a = c.args.self.now in
    omega (arith, head-length a.form a.refs a.steps a.segs (length a.figures.now), c.requires, c.put_counts-third.ensures.ends)

pub put_number-requires : goal.put_number-requires
put_number-requires c =
    let a = c.args.self.now in
    let l = head-length a.form a.refs a.steps a.segs (length a.figures.now) in
    omega (arith, l, c.requires, c.put_counts-third.ensures.ends, c.put_number-fourth.ensures.ends)

pub returns : goal.returns
unfolding head_text
returns c =
    put_then c.put_counts-third.ensures (put_then c.put_number-fourth.ensures c.put_number.ensures)
