-- The loop's invariant of `listing::of_sheet::sheet_refs`: `refs` counts the segments among the entries passed.
use Rattle.listing.proofs.Counting.{Counted}
use Rattle.listing.proofs.of_sheet.sheet_refs.Given as goal

abbrev pub invariant-loop-x : goal.invariant-loop-x
invariant-loop-x l = Counted l.segs l.fn.s.touches l.x-index l.refs
