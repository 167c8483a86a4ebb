-- `write_sheet::touch_text::put_touches` meets its contract. The loop's invariant: the lines of the entries passed are put from `at` on.
use lib.ListN.{length, take}
use Rattle.sheet.specs.Touches.{touches_text}
use Rattle.write_sheet.specs.inner.Steps.{touches_with}
use Rattle.text.proofs.Putting.{Filled}
use Rattle.write_sheet.proofs.touch_text.put_touches.Given as goal

abbrev pub invariant-loop-i : goal.invariant-loop-i
invariant-loop-i l =
    Filled l.i (length l.entries) (touches_text (touches_with (take l.i l.entries) l.marks)) l.at l.initial.out l.next l.out
