use native.Mathlib.Omega.{arith}
use Prim.Native.Nat.{◌*◌, ◌^◌, ◌≤◌}
use Rattle.model.proofs.Bounds.{product-within}
use Rattle.model.proofs.swap_cost.Goals.{Start}
use Rattle.model.proofs.swap_cost.Goals as goal

fits-product : (c : Start) → c.args.a * c.args.z ≤ 2 ^ 8 * 2 ^ 16
fits-product c = product-within c.args.a c.args.z (2 ^ 8) (2 ^ 16) (omega arith) (omega arith)

pub overflow_mul-result : goal.overflow_mul-result
overflow_mul-result c = omega (arith, fits-product c)

-- src/lib.rt:73:15
pub overflow_add-result : goal.overflow_add-result
overflow_add-result c = omega (arith, fits-product c)
