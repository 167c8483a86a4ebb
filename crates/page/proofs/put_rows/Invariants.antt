-- `page::put_rows` meets its contract. The loop's invariant: the lines of the rows passed are put from `at` on.
use mathlib.Core.List.{map}
use lib.ListN.{length, take}
use Rattle.page.specs.Page.{row_line, concatenated}
use Rattle.page.proofs.Parts.{LinesPut}
use Rattle.page.proofs.put_rows.Given as goal

abbrev pub invariant-loop-f : goal.invariant-loop-f
invariant-loop-f l =
    LinesPut l.f-index (length l.rows) (concatenated (map row_line (take l.f-index l.rows))) l.at l.initial.out l.next l.out
