-- `write_sheet::head_text::warm_length` meets its contract: a sheet has lines of warm segments from form 3 on.
use mathlib.Core.Path.{sym, ap, ◌∙◌}
use native.Mathlib.Omega.{arith}
use lib.ListN.{length}
use Rattle.text.proofs.Lengths.{length-of}
use Rattle.write_sheet.proofs.HeadParts.{warm-later, warm-first}
use Rattle.write_sheet.proofs.head_text.warm_length.Goals as goal

pub returns-then-has_warm : goal.returns-then-has_warm
returns-then-has_warm c =
    let a = c.args in
    let e = warm-later a.form a.holds.now (sym c.has_warm.ensures ∙ c.if-has_warm.true) in
    length-of (omega (arith, ap length e))

pub returns : goal.returns
returns c =
    let a = c.args in
    length-of (omega (arith, ap length (warm-first a.form a.holds.now (sym c.has_warm.ensures ∙ c.if-has_warm.false))))
