-- `margin::reference_place` meets its contract.
use native.Mathlib.Nat.{le_antisymm}
use Rattle.margin.proofs.Places.{look-start, look-idle, look-next, look-found, look-end}
use Rattle.margin.proofs.reference_place.Goals.{then-entry-segs+else-left-eq1, else-entry-segs}
use Rattle.margin.proofs.reference_place.Goals as goal

pub loop-t-init : goal.loop-t-init
loop-t-init c = look-start _ _ _ c.requires

pub loop-t-preserved : goal.loop-t-preserved
loop-t-preserved c =
    elim c.if-entry-segs.branch [
      | then-entry-segs+else-left-eq1 w ↦
          rw w.left-is (look-next _ _ _ _ _ c.loop-t.invariant c.loop-t-test.true w.if-entry-segs.true w.if-left-eq1.false)
      | else-entry-segs w ↦ rw w.left-is (look-idle _ _ _ _ _ c.loop-t.invariant c.loop-t-test.true w.if-entry-segs.false)
    ]

pub returns-then-left-eq1 : goal.returns-then-left-eq1
returns-then-left-eq1 c =
    look-found _ _ _ _ _ c.loop-t.invariant c.loop-t-test.true c.if-entry-segs.true c.if-left-eq1.true

pub returns : goal.returns
returns c = look-end _ _ _ _ _ c.loop-t.invariant (le_antisymm c.loop-t-test.false c.loop-t.auto.t-end)
