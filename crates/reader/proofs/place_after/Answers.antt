-- `place_after` meets its contract: what follows a line is the end of the sheet.
use mathlib.Core.Path.{ap, ◌∙◌}
use native.Mathlib.Omega.{arith}
use lib.ListN.{length, drop, length-drop}
use Rattle.text.specs.Keys.{line_feed}
use Rattle.reader.specs.Parts.{after_line}
use Rattle.reader.proofs.Places.{after-length}
use Rattle.reader.proofs.place_after.Goals as goal

pub overflow_sub-result : goal.overflow_sub-result
overflow_sub-result c =
    let e = ap length (c.after-left.ensures ∙ ap after_line c.rest.ensures) in
    let a = c.args in
    omega (arith, e, after-length line_feed (drop a.at a.s.now), length-drop a.at a.s.now)
