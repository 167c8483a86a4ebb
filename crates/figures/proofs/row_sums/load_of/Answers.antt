-- `figures::row_sums::load_of` meets its contract: the product is within 2 ^ 32.
use Prim.Native.Nat.{◌*◌, ◌^◌, ◌≤◌}
use native.Mathlib.Omega.{arith}
use Rattle.model.proofs.Bounds.{product-within}
use Rattle.figures.proofs.row_sums.load_of.Goals.{Start}
use Rattle.figures.proofs.row_sums.load_of.Goals as goal

volumes-fit : (c : Start) → c.args.a * c.args.missed ≤ 2 ^ 8 * 2 ^ 24
volumes-fit c = product-within c.args.a c.args.missed (2 ^ 8) (2 ^ 24) (omega arith) (omega arith)

pub overflow_mul-result : goal.overflow_mul-result
overflow_mul-result c = omega (arith, volumes-fit c)

pub overflow_add-result : goal.overflow_add-result
overflow_add-result c = omega (arith, volumes-fit c)
