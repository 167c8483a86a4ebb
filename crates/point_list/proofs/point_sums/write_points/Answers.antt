-- `point_list::point_sums::write_points` meets its contract: the invariant of its loop is `Writing`.
use mathlib.Core.Path.{◌∙◌}
use native.Mathlib.Omega.{arith}
use Rattle.point_list.proofs.Writing.{writing_start, point-room, memory-fits, load_fits, writing-new, writing-same}
use Rattle.point_list.proofs.Writing.{writing-done}
use Rattle.point_list.proofs.point_sums.write_points.Goals.{then-p-q, else-p-q}
use Rattle.point_list.proofs.point_sums.write_points.Goals as goal

pub loop-key-init : goal.loop-key-init
loop-key-init c = writing_start c.first_cost-w.ensures

pub put_point-requires : goal.put_point-requires
put_point-requires c = point-room c.requires c.loop-key.invariant

pub overflow_add-at : goal.overflow_add-at
overflow_add-at c = omega (arith, point-room c.requires c.loop-key.invariant)

pub plus-m-requires : goal.plus-m-requires
plus-m-requires c = omega (arith, c.from.ensures, memory-fits c.requires c.loop-key.invariant c.loop-key-test.true)

pub minus-l-requires : goal.minus-l-requires
minus-l-requires c = omega (arith, c.from-in-loop-key.ensures, load_fits c.requires c.loop-key.invariant c.loop-key-test.true)

pub loop-key-preserved : goal.loop-key-preserved
loop-key-preserved c =
    let lt = c.loop-key-test.true in
    let more = c.plus-m.ensures ∙ rw c.from.ensures in
    let less = c.minus-l.ensures ∙ rw c.from-in-loop-key.ensures in
    elim c.if-p-q.branch [
      | then-p-q t ↦ rw (t.out-is, t.at-is, t.r-is, t.w-is)
          (writing-new c.requires c.loop-key.invariant lt t.if-p-q.true t.put_point.ensures more less)
      | else-p-q t ↦ rw (t.out-is, t.at-is, t.r-is, t.w-is) (writing-same c.requires c.loop-key.invariant lt t.if-p-q.false more less)
    ]

pub returns : goal.returns
returns c = c.put_point-2.ensures ∙ writing-done c.requires c.loop-key.invariant c.loop-key-test.false
