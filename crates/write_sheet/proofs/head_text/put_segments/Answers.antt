-- `write_sheet::head_text::put_segments` meets its contract: the lines are put one part after another.
use native.Mathlib.Omega.{arith}
use Rattle.write_sheet.specs.inner.Heads.{segments_text}
use Rattle.text.proofs.Putting.{put_then}
use Rattle.write_sheet.proofs.HeadParts.{segments-length}
use Rattle.write_sheet.proofs.head_text.put_segments.Goals as goal

pub put_kind-weight-requires : goal.put_kind-weight-requires
put_kind-weight-requires c =
    let a = c.args in
    omega (arith, segments-length a.kind a.a a.sizes.now)

pub put_number-count-requires : goal.put_number-count-requires
put_number-count-requires c =
    let a = c.args in
    omega (arith, segments-length a.kind a.a a.sizes.now)

pub put_counted-requires : goal.put_counted-requires
put_counted-requires c =
    let l = segments-length c.args.kind c.args.a c.args.sizes.now in
    omega (arith, l, c.requires, c.put_kind-weight.ensures.ends, c.put_number-count.ensures.ends)

pub returns : goal.returns
unfolding segments_text
returns c =
    put_then c.put_kind-weight.ensures (put_then c.put_number-count.ensures c.put_counted.ensures)
