-- `c_lists::recorder_list::take_all` meets its contract. The loop's invariant: a list that stood for a sheet
-- stands for it with the references so far.
use Prim.Native.Nat.{min}
use mathlib.Core.Path.{refl, ap, ◌∙◌}
use native.Mathlib.Omega.{arith}
use lib.ListN.{get_or}
use lib.Seq.{take_all}
use Rattle.model.specs.Sheets.{most_segs}
use Rattle.recorder.proofs.Bulk.{takable-is, none-appended}
use Rattle.c_lists.specs.RecorderList.{list_of, at_segs, at_steps}
use Rattle.c_lists.proofs.ListCalls.{all-next}
use Rattle.c_lists.proofs.recorder_list.take_all.Goals as goal

pub loop-t-init : goal.loop-t-init
loop-t-init c = λ v valid e. e ∙ ap list_of (none-appended v _ refl)

pub overflow_add-steps : goal.overflow_add-steps
overflow_add-steps c =
    let l = c.loop-t in
    let l₀ = c.args.list.now in
    let can = takable-is (min (get_or l₀ at_segs 0) most_segs) (get_or l₀ at_steps 0) c.args.refs.now c.requires in
    omega (arith, can.room l.t c.loop-t-test.true)

pub take-requires : goal.take-requires
take-requires c =
    let l = c.loop-t in
    let l₀ = c.args.list.now in
    let can = takable-is (min (get_or l₀ at_segs 0) most_segs) (get_or l₀ at_steps 0) c.args.refs.now c.requires in
    (omega (arith, c.from.ensures, can.segments l.t c.loop-t-test.true), omega (arith, can.room l.t c.loop-t-test.true))

pub loop-t-preserved : goal.loop-t-preserved
loop-t-preserved c =
    let l = c.loop-t in
    let l₀ = c.args.list.now in
    let can = takable-is (min (get_or l₀ at_segs 0) most_segs) (get_or l₀ at_steps 0) c.args.refs.now c.requires in
    λ v valid e.
    all-next v valid c.args.list.now c.args.refs.now e can l.t c.loop-t-test.true _ _ (l.invariant v valid e)
    (rw c.from.ensures at c.take.ensures)

pub returns : goal.returns
returns c v valid e =
    let refs = c.args.refs.now in
    rw (take_all c.loop-t.t refs c.loop-t-test.false) at (c.loop-t.invariant v valid e)
