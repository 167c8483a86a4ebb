-- `write_sheet::head_text::rows_length` meets its contract. The loop's invariant: `sum` is the length of the lines of the rows passed.
use lib.ListN.{length, take}
use Rattle.sheet.specs.Values.{row_text}
use Rattle.text.specs.Texts.{lines_text}
use Rattle.text.proofs.Lengths.{Added}
use Rattle.write_sheet.proofs.head_text.rows_length.Given as goal

abbrev pub invariant-loop-q : goal.invariant-loop-q
invariant-loop-q l = Added l.q-index (length l.rows) (lines_text row_text (take l.q-index l.rows)) 16 l.sum
