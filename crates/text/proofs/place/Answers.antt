-- `text::place` meets its contract: the lengths decide, and then the text is put.
use native.Mathlib.Omega.{arith}
use Rattle.model.proofs.Places.{text-short}
use Rattle.text.proofs.Placing.{text-put}
use Rattle.text.proofs.place.Goals as goal

pub returns-then-out-text : goal.returns-then-out-text
returns-then-out-text c = text-short _ _ (omega (arith, c.if-out-text.true))

pub returns : goal.returns
returns c = let p = c.put.ensures in text-put _ _ _ _ _ (omega (arith, p.ends)) p
