-- `write_sheet::touch_text::touches_length` meets its contract. The loop's invariant: `sum` is the length of the lines of the entries
-- passed.
use lib.ListN.{length, take}
use Rattle.sheet.specs.Touches.{touches_text}
use Rattle.write_sheet.specs.inner.Steps.{touches_with}
use Rattle.text.proofs.Lengths.{Added}
use Rattle.write_sheet.proofs.touch_text.touches_length.Given as goal

abbrev pub invariant-loop-i : goal.invariant-loop-i
invariant-loop-i l = Added l.i (length l.entries) (touches_text (touches_with (take l.i l.entries) l.marks)) 32 l.sum
