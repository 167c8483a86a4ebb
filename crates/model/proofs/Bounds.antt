-- Bounds of products and costs: what every multiplication in the code needs.
use Prim.Native.Nat.{ℕ, ◌-◌, ◌*◌, ◌^◌, ◌≤◌, ◌<◌}
use mathlib.Core.Bool.{Bool, true, false, cond}
use native.Mathlib.Nat.{mul-le-mul}
use native.Mathlib.Omega.{arith}
use Rattle.model.specs.Costs.{swap_cost, unit_cost, retention}
use Rattle.model.specs.declared.Kind.{Kind}
use Rattle.model.specs.declared.Kind.TheVariants.{Time, Space}

-- a product of two bounded numbers is within the product of the bounds
pub product-within : (x y m n : ℕ) → x ≤ m → y ≤ n → x * y ≤ m * n
product-within x y m n = mul-le-mul

-- one step of a segment costs at most what its size is within
pub unit-within : (kind : Kind) (z m : ℕ) → 1 ≤ m → z ≤ m → unit_cost kind z ≤ m
unit-within Time z m one le = one
unit-within Space z m one le = le

-- retention and swap cost of a segment whose size is a 16-bit number
pub retention_within : (kind : Kind) (z k : ℕ) → z < 2 ^ 16 → k < 2 ^ 16 → retention kind z k < 2 ^ 32
retention_within kind z k lz lk =
    omega (
      arith,
      product-within k (unit_cost kind z) (2 ^ 16 - 1) (2 ^ 16 - 1) (omega arith)
          (unit-within kind z (2 ^ 16 - 1) (omega arith) (omega arith)),
    )

pub swap_within : (a z : ℕ) → a < 2 ^ 8 → z < 2 ^ 16 → swap_cost a z < 2 ^ 32
swap_within a z la lz = omega (arith, product-within a z (2 ^ 8) (2 ^ 16) (omega arith) (omega arith))

-- one of two bounded numbers
pub either-within : (b : Bool) (x y m : ℕ) → x ≤ m → y ≤ m → cond b x y ≤ m
either-within true x y m l r = l
either-within false x y m l r = r
