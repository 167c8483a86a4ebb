-- `write_sheet::head_text::put_warm` meets its contract: nothing is put before form 3.
use mathlib.Core.Path.{sym, ap, ◌∙◌}
use native.Mathlib.Omega.{arith}
use lib.ListN.{length}
use Rattle.text.proofs.Putting.{put-nothing, put_same}
use Rattle.write_sheet.proofs.HeadParts.{warm-later, warm-first}
use Rattle.write_sheet.proofs.head_text.put_warm.Goals as goal

pub put_counted-requires : goal.put_counted-requires
put_counted-requires c =
    let e = warm-later c.args.form c.args.holds.now (sym c.has_warm.ensures ∙ c.if-has_warm.true) in
    omega (arith, ap length e, c.requires)

pub returns-then-has_warm : goal.returns-then-has_warm
returns-then-has_warm c =
    let a = c.args in
    let e = warm-later a.form a.holds.now (sym c.has_warm.ensures ∙ c.if-has_warm.true) in
    put_same (sym e) c.put_counted.ensures

pub returns : goal.returns
returns c =
    let a = c.args in
    let e = warm-first a.form a.holds.now (sym c.has_warm.ensures ∙ c.if-has_warm.false) in
    put_same (sym e) (put-nothing _ _ (omega arith))
