-- `listing::row_text::put_lines` meets its contract. The loop's invariant: the lines so far are put from `at` on.
use lib.ListN.{length, take}
use Rattle.text.proofs.Putting.{Filled}
use Rattle.listing.specs.inner.Keyed.{keyed_text}
use Rattle.listing.proofs.row_text.put_lines.Given as goal

abbrev pub invariant-loop-key : goal.invariant-loop-key
invariant-loop-key l = Filled l.key-index (length l.lines) (keyed_text (take l.key-index l.lines)) l.at l.initial.out l.next l.out
