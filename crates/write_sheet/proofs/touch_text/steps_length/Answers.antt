-- `write_sheet::touch_text::steps_length` meets its contract: the three lengths are added.
use mathlib.Core.Path.{ap}
use native.Mathlib.Omega.{arith}
use lib.ListN.{length}
use Rattle.text.specs.Keys.{refs_key}
use Rattle.text.specs.Texts.{number_text}
use Rattle.text.proofs.Lengths.{length-of}
use Rattle.write_sheet.proofs.TouchLines.{steps-length}
use Rattle.write_sheet.proofs.touch_text.steps_length.Goals as goal

pub returns : goal.returns
returns c =
    let a = c.args in
    let e = ap (λ k. length (number_text refs_key k)) (c.count_touches-refs.ensures a.marks.now) in
    length-of (omega (arith, e, steps-length a.entries.now a.marks.now))
