-- `write_sheet::head_text::put_priced` meets its contract: the count's line is put, and then the rows' lines.
use native.Mathlib.Omega.{arith}
use Rattle.text.proofs.Putting.{put_then}
use Rattle.write_sheet.specs.inner.Heads.{priced_text}
use Rattle.write_sheet.proofs.HeadParts.{priced-length}
use Rattle.write_sheet.proofs.head_text.put_priced.Goals as goal

pub put_number-first-requires : goal.put_number-first-requires
put_number-first-requires c =
    omega (arith, priced-length c.args.rows.now)

pub put_rows-requires : goal.put_rows-requires
put_rows-requires c =
    omega (arith, priced-length c.args.rows.now)

pub returns : goal.returns
unfolding priced_text
returns c =
    put_then c.put_number-first.ensures c.put_rows.ensures
