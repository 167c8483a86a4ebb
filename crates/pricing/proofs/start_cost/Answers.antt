-- `start_cost` meets its contract. The loop's invariant: the segments below i are added up.
use native.Mathlib.Omega.{arith}
use Rattle.std.proofs.lemmas.Bool.Decides.{nat_tests}
use Rattle.pricing.proofs.StartCosts.{added-start, added-step, added-all, start-free}
use Rattle.pricing.proofs.start_cost.Goals as goal

pub returns-then-is_empty : goal.returns-then-is_empty
returns-then-is_empty c = start-free _ _ _ (grind (arith, nat_tests))

pub loop-i-init : goal.loop-i-init
loop-i-init c = added-start _ _ _

pub loop-i-preserved : goal.loop-i-preserved
loop-i-preserved c =
    added-step _ _ _ _ _ _ _ _ c.start_table-last.ensures c.loop-i.invariant c.loop-i-test.true
    c.requires c.unit_where.ensures c.plus-cost.ensures

pub returns : goal.returns
returns c = added-all _ _ _ _ _ c.loop-i.invariant c.loop-i-test.false
