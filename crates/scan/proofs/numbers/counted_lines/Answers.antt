-- `scan::numbers::counted_lines` meets its contract: the count, and then so many lines into the front of `out`.
use mathlib.Core.Path.{refl, sym, ap}
use Prim.Native.Nat.{◌≤◌}
use lib.ListN.{length}
use lib.Seq.{length-take-le}
use Rattle.scan.specs.inner.AtPlace.{moved_on}
use Rattle.scan.proofs.Stages.{count-refused, counted-reads}
use Rattle.scan.proofs.NumberLines.{number-bounds}
use Rattle.scan.proofs.LinesRead.{exits, line_read, line-place, line-refused}
use Rattle.scan.proofs.numbers.counted_lines.Goals.{In_ok-n}
use Rattle.scan.proofs.numbers.counted_lines.Goals as goal

-- the count is within the length of `out`
counted-within : (c : In_ok-n) → c.in_ok-n.n ≤ length c.args.out.now
counted-within c = (number-bounds _ _ _ _ _ _ (line_read c.number_line.ensures c.in_ok-n.was)).1

pub slice_bounds-number_lines-end-2 : goal.slice_bounds-number_lines-end-2
slice_bounds-number_lines-end-2 c = counted-within (goal.at.slice_bounds-number_lines-end-2 c).In_ok-n

pub slice_bounds-number_lines-end-3 : goal.slice_bounds-number_lines-end-3
slice_bounds-number_lines-end-3 c = sym (length-take-le _ _ (counted-within (goal.at.slice_bounds-number_lines-end-3 c).In_ok-n))

pub returns-in_err-n : goal.returns-in_err-n
returns-in_err-n c =
    let e = exits _ c.in_err-n.field-0.0 c.from_residual.ensures.1 in
    rw e (count-refused _ _ _ _ _ (line-refused c.number_line.ensures c.in_err-n.was))

pub returns-in_err-next : goal.returns-in_err-next
returns-in_err-next c =
    let e = exits _ c.in_err-next.field-0.0 c.from_residual-in_err-next.ensures.1 in
    let r = c.number_line.ensures in
    rw e (counted-reads _ _ _ _ _ c.number_lines.result _ _ _ (line_read r c.in_ok-n.was) (line-place r c.in_ok-n.was)
    (counted-within (goal.at.returns-in_err-next c).In_ok-n) c.number_lines.auto.out c.number_lines.ensures refl
    (sym (ap (moved_on _) c.in_err-next.was)))

pub returns : goal.returns
returns c =
    let r = c.number_line.ensures in
    counted-reads _ _ _ _ _ c.number_lines.result _ _ _ (line_read r c.in_ok-n.was) (line-place r c.in_ok-n.was)
    (counted-within (goal.at.returns c).In_ok-n) c.number_lines.auto.out c.number_lines.ensures refl
    (sym (ap (moved_on _) c.in_ok-next.was))
