-- `write_sheet::head_text::priced_length` meets its contract: the two lengths are added.
use native.Mathlib.Omega.{arith}
use Rattle.text.proofs.Lengths.{length-of}
use Rattle.write_sheet.proofs.HeadParts.{priced-length}
use Rattle.write_sheet.proofs.head_text.priced_length.Goals as goal

pub returns : goal.returns
returns c =
    length-of (omega (arith, priced-length c.args.rows.now))
