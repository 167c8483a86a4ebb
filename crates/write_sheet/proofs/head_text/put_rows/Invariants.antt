-- `write_sheet::head_text::put_rows` meets its contract. The loop's invariant: the lines of the rows passed are put from `at` on.
use lib.ListN.{length, take}
use Rattle.sheet.specs.Values.{row_text}
use Rattle.text.proofs.Putting.{Filled}
use Rattle.text.specs.Texts.{lines_text}
use Rattle.write_sheet.proofs.head_text.put_rows.Given as goal

abbrev pub invariant-loop-q : goal.invariant-loop-q
invariant-loop-q l = Filled l.q-index (length l.rows) (lines_text row_text (take l.q-index l.rows)) l.at l.initial.out l.next l.out
