-- `write_sheet::head_text::segments_length` meets its contract: the three lengths are added.
use native.Mathlib.Omega.{arith}
use Rattle.text.proofs.Lengths.{length-of}
use Rattle.write_sheet.proofs.HeadParts.{segments-length}
use Rattle.write_sheet.proofs.head_text.segments_length.Goals as goal

pub returns : goal.returns
returns c =
    let a = c.args in
    length-of (omega (arith, segments-length a.kind a.a a.sizes.now))
