-- `write_sheet::touch_text::put_steps` meets its contract: the counts are put, and then the lines of the touches.
use mathlib.Core.Path.{ap}
use native.Mathlib.Omega.{arith}
use lib.ListN.{length}
use Rattle.text.specs.Keys.{refs_key}
use Rattle.text.specs.Texts.{number_text}
use Rattle.text.proofs.Putting.{put_same, put_then}
use Rattle.write_sheet.specs.inner.Steps.{steps_text}
use Rattle.write_sheet.proofs.TouchLines.{steps-length}
use Rattle.write_sheet.proofs.touch_text.put_steps.Goals as goal

pub put_number-second-requires : goal.put_number-second-requires
put_number-second-requires c =
    omega (arith, steps-length c.args.entries.now c.args.marks.now, c.requires)

pub put_number-first-requires : goal.put_number-first-requires
put_number-first-requires c =
    let m = c.args.marks.now in
    let e = ap (λ k. length (number_text refs_key k)) (c.count_touches-refs.ensures m) in
    omega (arith, e, steps-length c.args.entries.now m, c.requires, c.put_number-second.ensures.ends)

pub put_touches-requires : goal.put_touches-requires
put_touches-requires c =
    let m = c.args.marks.now in
    let e = ap (λ k. length (number_text refs_key k)) (c.count_touches-refs.ensures m) in (
      c.requires.0,
      omega (arith, e, steps-length c.args.entries.now m, c.requires, c.put_number-second.ensures.ends, c.put_number-first.ensures.ends),
    )

pub returns : goal.returns
unfolding steps_text
returns c =
    let m = c.args.marks.now in
    put_then c.put_number-second.ensures
    (put_then (put_same (ap (number_text refs_key) (c.count_touches-refs.ensures m)) c.put_number-first.ensures)
    c.put_touches.ensures)
