-- `write_sheet::head_text::put_numbers` meets its contract. The loop's invariant: the lines of the numbers passed are put from `at` on.
use lib.ListN.{length, take}
use Rattle.text.specs.Texts.{number_text, lines_text}
use Rattle.text.proofs.Putting.{Filled}
use Rattle.write_sheet.proofs.head_text.put_numbers.Given as goal

abbrev pub invariant-loop-x : goal.invariant-loop-x
invariant-loop-x l = Filled l.x-index (length l.xs) (lines_text (number_text l.key) (take l.x-index l.xs)) l.at l.initial.out l.next l.out
