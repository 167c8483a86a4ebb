-- `write_sheet::write_within` meets its contract: a place of so many bytes has room for the text.
use native.Mathlib.Omega.{arith}
use Rattle.text.proofs.Placing.{text-put}
use Rattle.write_sheet.proofs.write_within.Goals as goal

pub returns : goal.returns
returns c = let p = c.put_sheet.ensures in text-put _ _ _ _ _ (omega (arith, p.ends)) p
