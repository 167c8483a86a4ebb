-- `place_of` meets its contract. The loop's invariant: the places passed are not empty and have other pages.
use Rattle.din.specs.inner.Held.{pages_of, marks_of}
use Rattle.din.proofs.Probing.{Passed}
use Rattle.din.proofs.pages.place_of.Given as goal

abbrev pub invariant-loop-j : goal.invariant-loop-j
invariant-loop-j l = Passed (pages_of l.table) (marks_of l.table) l.page l.start l.j
