-- `touch` meets its contract: what its parts give.
use native.Mathlib.Omega.{arith}
use Rattle.store_plan.proofs.Touches.{excess_small}
use Rattle.store_plan.proofs.mod_pass.touching.touch.Goals as goal

pub plus-s-requires-clause-more_small : goal.plus-s-requires-clause-more_small
plus-s-requires-clause-more_small c =
    let a = c.args in
    omega (
      arith,
      c.excess-x.ensures,
      excess_small a.kind a.a a.row a.z a.mark a.steps (omega arith) (omega arith) (omega (arith, c.well_formed)),
    )
