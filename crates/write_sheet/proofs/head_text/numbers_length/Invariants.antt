-- `write_sheet::head_text::numbers_length` meets its contract. The loop's invariant: `sum` is the length of the lines of the numbers
-- passed.
use lib.ListN.{length, take}
use Rattle.text.specs.Texts.{number_text, lines_text}
use Rattle.text.proofs.Lengths.{Added}
use Rattle.write_sheet.proofs.head_text.numbers_length.Given as goal

abbrev pub invariant-loop-x : goal.invariant-loop-x
invariant-loop-x l = Added l.x-index (length l.xs) (lines_text (number_text l.key) (take l.x-index l.xs)) 26 l.sum
