-- `read_touches::step_lines` meets its contract: the number of steps, and then the touches into the fronts of `out` and `marks`.
use mathlib.Core.Path.{refl, sym, ap, ◌∙◌}
use mathlib.Core.Bool.{false}
use Prim.Native.Nat.{◌≤◌}
use native.Mathlib.Omega.{arith}
use lib.ListN.{length, replicate}
use lib.Seq.{length-take-le}
use Rattle.model.specs.Sheets.{idle, most_steps}
use Rattle.model.specs.Values.{idles, blank_marks}
use Rattle.model.proofs.Values.{idles-length, blank-marks-length}
use Rattle.sheet.specs.Lines.{split_at}
use Rattle.sheet.specs.Order.{steps_part}
use Rattle.scan.specs.inner.AtPlace.{moved_on}
use Rattle.scan.proofs.NumberLines.{number-bounds}
use Rattle.scan.proofs.LinesRead.{exits, line_read, line-place, line-refused}
use Rattle.read_touches.proofs.ReadTouches.{blank-front, steps-refused, steps-reads}
use Rattle.read_touches.proofs.step_lines.Goals.{In_ok-n}
use Rattle.read_touches.proofs.step_lines.Goals as goal

-- the steps are within the most, which is the length of `out`
counted-within : (c : In_ok-n) → c.in_ok-n.n ≤ most_steps
counted-within c = (number-bounds _ _ _ _ _ _ (line_read c.number_line.ensures c.in_ok-n.was)).1

out_within : (c : In_ok-n) → c.in_ok-n.n ≤ length c.args.out.now
out_within c = omega (arith, counted-within c, ap length c.requires.idle_all, idles-length most_steps)

-- and that of `marks`
marks-within : (c : In_ok-n) → c.in_ok-n.n ≤ length c.args.marks.now
marks-within c = omega (arith, counted-within c, ap length c.requires.unmarked, blank-marks-length most_steps)

pub number_line-requires : goal.number_line-requires
unfolding split_at
number_line-requires c = refl

pub slice_bounds-refs_lines-end-2 : goal.slice_bounds-refs_lines-end-2
slice_bounds-refs_lines-end-2 c = out_within (goal.at.slice_bounds-refs_lines-end-2 c).In_ok-n

pub slice_bounds-refs_lines-end-3 : goal.slice_bounds-refs_lines-end-3
slice_bounds-refs_lines-end-3 c = sym (length-take-le _ _ (out_within (goal.at.slice_bounds-refs_lines-end-3 c).In_ok-n))

pub slice_bounds-refs_lines-end-4 : goal.slice_bounds-refs_lines-end-4
slice_bounds-refs_lines-end-4 c = marks-within (goal.at.slice_bounds-refs_lines-end-4 c).In_ok-n

pub slice_bounds-refs_lines-end-5 : goal.slice_bounds-refs_lines-end-5
slice_bounds-refs_lines-end-5 c = sym (length-take-le _ _ (marks-within (goal.at.slice_bounds-refs_lines-end-5 c).In_ok-n))

pub refs_lines-requires : goal.refs_lines-requires
unfolding idles blank_marks
refs_lines-requires c =
    let p = c.requires in
    let i = (goal.at.refs_lines-requires c).In_ok-n in
    let h = counted-within (goal.at.refs_lines-requires c).In_ok-n in
    let n = sym (length-take-le _ _ (out_within (goal.at.refs_lines-requires c).In_ok-n)) in
    record {
      some = p.some;
      few = p.few;
      short = omega (arith, n, h);
      idle_all = blank-front _ most_steps idle _ p.idle_all h ∙ ap (λ m. replicate m idle) n;
      unmarked = blank-front _ most_steps false _ p.unmarked h ∙ ap (λ m. replicate m false) n;
    }

pub returns-in_err-n : goal.returns-in_err-n
unfolding steps_part
returns-in_err-n c =
    let e = exits _ c.in_err-n.field-0.0 c.from_residual.ensures.1 in
    rw e (steps-refused _ _ _ _ _ _ _ (line-refused c.number_line.ensures c.in_err-n.was))

pub returns-in_err-next : goal.returns-in_err-next
unfolding steps_part
returns-in_err-next c =
    let e = exits _ c.in_err-next.field-0.0 c.from_residual-in_err-next.ensures.1 in
    let r = c.number_line.ensures in
    let i = (goal.at.returns-in_err-next c).In_ok-n in
    rw e (steps-reads _ _ _ _ _ _ c.refs_lines.result _ _ _ _ _ (line_read r c.in_ok-n.was) (line-place r c.in_ok-n.was)
    (out_within (goal.at.returns-in_err-next c).In_ok-n) (marks-within (goal.at.returns-in_err-next c).In_ok-n)
    c.refs_lines.auto.entries c.refs_lines.auto.marks c.refs_lines.ensures refl (sym (ap (moved_on _) c.in_err-next.was)))

pub returns : goal.returns
unfolding steps_part
returns c =
    let r = c.number_line.ensures in
    steps-reads _ _ _ _ _ _ c.refs_lines.result _ _ _ _ _ (line_read r c.in_ok-n.was) (line-place r c.in_ok-n.was)
    (out_within (goal.at.returns c).In_ok-n) (marks-within (goal.at.returns c).In_ok-n)
    c.refs_lines.auto.entries c.refs_lines.auto.marks c.refs_lines.ensures refl (sym (ap (moved_on _) c.in_ok-next.was))
