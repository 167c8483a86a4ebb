-- `listing::Listing::write` meets its contract: the listing is put at the front of the lent place, or at that of a local one and copied from there.
use native.Mathlib.Omega.{arith}
use Rattle.text.proofs.Placing.{text-put, put_front}
use Rattle.listing.proofs.Listing.write.Goals as goal

pub returns-then-most_bytes-out : goal.returns-then-most_bytes-out
returns-then-most_bytes-out c = let p = c.put.ensures in text-put _ _ _ _ _ (omega (arith, p.ends)) p

pub returns : goal.returns
returns c =
    rw (put_front c.put-length.ensures) at c.place.ensures
