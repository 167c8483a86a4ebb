-- `read_touches::short_touches` meets its contract. The loop's invariant: the touches of the lines passed are put into the entries and the
-- marks.
use mathlib.Core.Path.{refl, sym}
use native.Mathlib.Omega.{arith}
use Rattle.read_touches.proofs.ReadTouches.{touch-within, touches-start, touches-step}
use Rattle.read_touches.proofs.short_touches.Goals as goal

pub loop-count-init : goal.loop-count-init
loop-count-init c = let p = c.requires in touches-start _ _ _ _ _ _ _ refl p.idle_all p.unmarked

pub put-requires : goal.put-requires
put-requires c =
    let i = c.loop-count.invariant in
    let f = touch-within _ _ _ _ _ _ _ (sym c.in-Some.ensures.same) in
    (f.0, omega (arith, f, i.whole), omega (arith, f, i.marks_whole))

pub loop-count-preserved : goal.loop-count-preserved
loop-count-preserved c =
    let r = c.in-Some.ensures in
    rw (c.put.ensures.entry, c.put.ensures.mark) (touches-step _ _ _ _ _ _ _ _ _ _ c.loop-count.invariant _ _ _ _ (omega arith) (sym r.same) r.within)
