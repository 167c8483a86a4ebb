-- `listing::write_refusal` meets its contract: the line's length decides, and the line is put at the front, the key and then the number.
use native.Mathlib.Omega.{arith}
use Rattle.model.proofs.Places.{text-short}
use Rattle.text.proofs.Placing.{text-put}
use Rattle.text.proofs.Putting.{put_then}
use Rattle.listing.specs.Listing.{refused_text}
use Rattle.listing.proofs.write_refusal.Goals as goal

pub returns-then-out-number_length : goal.returns-then-out-number_length
unfolding refused_text
returns-then-out-number_length c =
    let e = rw c.number-n.ensures at c.number_length.ensures.is_length in
    text-short _ _ (omega (arith, c.if-out-number_length.true))

pub returns : goal.returns
unfolding refused_text
returns c =
    let p = rw c.number-n.ensures at (put_then c.put-value.ensures c.put_digits.ensures) in
    text-put _ _ _ _ _ (omega (arith, p.ends)) p
