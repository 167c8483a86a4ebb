-- `recorder::taking::acceptable` meets its contract.
use native.Mathlib.Omega.{arith}
use Rattle.recorder.proofs.Bulk.{along-start, along-next, along-out-of-range, along-full, along-end}
use Rattle.recorder.proofs.taking.acceptable.Goals as goal

pub loop-n-init : goal.loop-n-init
loop-n-init c = along-start _ _ _

pub returns-then-segs-from : goal.returns-then-segs-from
returns-then-segs-from c =
    along-out-of-range _ _ _ _ c.loop-n.invariant c.loop-n-test.true (omega (arith, c.from.ensures))

pub overflow_sub-n : goal.overflow_sub-n
overflow_sub-n c = c.loop-n.invariant.0

pub returns-then-n-count : goal.returns-then-n-count
returns-then-n-count c =
    along-full _ _ _ _ c.loop-n.invariant c.loop-n-test.true (omega (arith, c.from.ensures)) (omega arith)

pub loop-n-preserved : goal.loop-n-preserved
loop-n-preserved c =
    along-next _ _ _ _ c.loop-n.invariant c.loop-n-test.true (omega (arith, c.from.ensures)) (omega arith)

pub returns : goal.returns
returns c = along-end _ _ _ _ c.loop-n.invariant c.loop-n-test.false
