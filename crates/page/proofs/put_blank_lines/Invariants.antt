-- `page::put_blank_lines` meets its contract. The loop's invariant: the lines of blanks so far are put from `at` on.
use lib.ListN.{replicate}
use Rattle.page.specs.Page.{blank_line, concatenated}
use Rattle.page.proofs.Parts.{LinesPut}
use Rattle.page.proofs.put_blank_lines.Given as goal

abbrev pub invariant-loop : goal.invariant-loop
invariant-loop l = LinesPut l.counter l.n (concatenated (replicate l.counter blank_line)) l.at l.initial.out l.next l.out
