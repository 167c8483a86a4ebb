-- `write_sheet::write` meets its contract: the text's length decides, and then the text is put.
use native.Mathlib.Omega.{arith}
use Rattle.model.proofs.Places.{text-short}
use Rattle.text.proofs.Placing.{text-put}
use Rattle.write_sheet.proofs.write.Goals as goal

pub returns-then-out-text_length : goal.returns-then-out-text_length
returns-then-out-text_length c = text-short _ _ (omega (arith, c.text_length.ensures, c.if-out-text_length.true))

pub returns : goal.returns
returns c = let p = c.put_sheet.ensures in text-put _ _ _ _ _ (omega (arith, p.ends)) p
