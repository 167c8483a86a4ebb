-- `window_list::window_pass::count_ends` meets its contract: the ends of the segments so far are counted.
use mathlib.Core.Path.{refl}
use native.Mathlib.Omega.{arith}
use Rattle.window_list.specs.inner.Counts.{Room, with_ends}
use Rattle.window_list.proofs.Counting.{ends-step}
use Rattle.window_list.proofs.window_pass.count_ends.Goals as goal

pub loop-mark-init : goal.loop-mark-init
unfolding with_ends
loop-mark-init c = refl

pub count-requires : goal.count-requires
count-requires c =
    let l = c.loop-mark in
    let room : Room l.counts = rw l.invariant (c.requires.1 l.mark-index (omega arith)) in
    (c.requires.0, room)

pub loop-mark-preserved : goal.loop-mark-preserved
loop-mark-preserved c = ends-step _ _ _ _ _ _ c.loop-mark.invariant c.count.ensures
