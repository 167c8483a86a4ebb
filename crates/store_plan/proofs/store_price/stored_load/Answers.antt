-- `stored_load` meets its contract: the invariant of its loop is `Storing`.
use mathlib.Core.Path.{refl}
use native.Mathlib.Omega.{arith}
use lib.ListN.{get_or}
use Rattle.model.specs.Sheets.{marks_of}
use Rattle.store_plan.proofs.Passing.{storing_start, storing_touch, storing_idle, storing_end}
use Rattle.store_plan.proofs.store_price.stored_load.Goals.{then-i-sizes, else-i-sizes}
use Rattle.store_plan.proofs.store_price.stored_load.Goals as goal

pub loop-t-init : goal.loop-t-init
loop-t-init c =
    let a = c.args in
    storing_start a.a a.sizes.now a.refs.now (marks_of a.marks.now) a.schedule.now c.requires.sizes_len_bound.0
    c.requires.sizes_len_bound.1 _ refl

pub loop-t-preserved : goal.loop-t-preserved
loop-t-preserved c =
    let a = c.args in
    let l = c.loop-t in
    let i = get_or a.refs.now l.t 0 in
    elim c.if-i-sizes.branch [
      | then-i-sizes w ↦ rw (w.flags-is, w.load-is, w.plus-load.ensures)
          (storing_touch a.a a.sizes.now a.refs.now (marks_of a.marks.now) a.schedule.now c.requires.sizes_len_bound.0
          c.requires.sizes_len_bound.1 l.flags l.load.0 l.t l.invariant c.loop-t-test.true i w.stored.result.0 w.modified-m.result
          _ refl w.if-i-sizes.true (omega arith) (omega (arith, c.type_inv.sizes i)) w.modified-m.ensures w.stored.ensures refl)
      | else-i-sizes w ↦ rw (w.flags-is, w.load-is)
          (storing_idle a.a a.sizes.now a.refs.now (marks_of a.marks.now) a.schedule.now c.requires.sizes_len_bound.0
          c.requires.sizes_len_bound.1 l.flags l.load.0 l.t l.invariant c.loop-t-test.true w.if-i-sizes.false)
    ]

pub returns : goal.returns
returns c =
    let a = c.args in
    let l = c.loop-t in record {
      result_value = storing_end a.a a.sizes.now a.refs.now (marks_of a.marks.now) a.schedule.now c.requires.sizes_len_bound.0
          c.requires.sizes_len_bound.1
          l.flags l.load.0 l.t l.invariant c.loop-t-test.false;
      result_bound = omega (arith, l.invariant.load_within, l.invariant.within, c.requires.sizes_len_bound.1);
    }
