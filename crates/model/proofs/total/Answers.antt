-- `model::total` meets its contract: each product is within 65,535 × 2 ^ 47, so that the sum is below 2 ^ 64.
use native.Mathlib.Omega.{arith}
use Prim.Native.Nat.{◌^◌}
use Rattle.model.proofs.Bounds.{product-within}
use Rattle.model.proofs.total.Goals as goal

pub overflow_add-result : goal.overflow_add-result
overflow_add-result c =
    let a = c.args in
    omega (
      arith,
      c.priced.ensures,
      c.priced-2.ensures,
      product-within a.row.d a.memory.0 65535 (2 ^ 47) (omega arith) (omega arith),
      product-within a.row.h a.load.0 65535 (2 ^ 47) (omega arith) (omega arith),
    )
