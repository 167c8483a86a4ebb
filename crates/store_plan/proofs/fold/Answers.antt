-- `fold` meets its contract: the invariant of its loop is `Folding`.
use Prim.Native.Nat.{◌-◌}
use mathlib.Core.Path.{refl}
use lib.ListN.{get_or}
use Rattle.model.specs.Sheets.{marks_of}
use Rattle.store_plan.proofs.Folding.{folding_start, folding_touch, folding_idle}
use Rattle.store_plan.proofs.fold.Goals as goal

pub loop-t-init : goal.loop-t-init
loop-t-init c =
    let a = c.args in
    folding_start a.segments a.refs.now (marks_of a.marks.now) a.found.now c.requires.segs_within c.requires.steps_within _ _ refl refl

pub loop-t-preserved-then-i-segments : goal.loop-t-preserved-then-i-segments
loop-t-preserved-then-i-segments c =
    let a = c.args in
    let l = c.loop-t in
    folding_touch a.segments a.refs.now (marks_of a.marks.now) a.found.now c.requires.segs_within c.requires.steps_within
    l.flags l.on l.t l.invariant c.loop-t-test.true (get_or a.refs.now (l.t - 1) 0) c.flag-f.result _ refl
    c.if-i-segments.true c.flag-f.ensures refl

pub loop-t-preserved : goal.loop-t-preserved
loop-t-preserved c =
    let a = c.args in
    let l = c.loop-t in
    folding_idle a.segments a.refs.now (marks_of a.marks.now) a.found.now c.requires.segs_within c.requires.steps_within
    l.flags l.on l.t l.invariant c.loop-t-test.true c.if-i-segments.false
