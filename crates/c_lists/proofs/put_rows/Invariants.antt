-- `c_lists::put_rows` meets its contract. The loop's invariant: the numbers of the rows passed are put at the front.
use lib.ListN.{take}
use Rattle.text.specs.inner.Puts.{Put}
use Rattle.text.specs.Texts.{lines_text}
use Rattle.c_lists.specs.Figures.{figure_list}
use Rattle.c_lists.proofs.put_rows.Given as goal

abbrev pub invariant-loop-f : goal.invariant-loop-f
invariant-loop-f l = Put (lines_text figure_list (take l.f-index l.f-items)) 0 l.initial.out l.next l.out
