-- What the tariff's definitions say, and that no bill exceeds 64 bits.
use Prim.Native.Nat.{ℕ, ◌+◌, ◌*◌, ◌≤◌, ◌<◌, max}
use mathlib.Core.Path.{◌≡◌, refl}
use mathlib.Core.Bool.{Bool, true, false}
use native.Mathlib.Omega.{arith}
use lib.Dec.{ltb}
use borrow.Author.Tests.{ltb-true, ltb-false}
use Rattle.tariff.specs.Tariff.{started_thousands, bill_of}
use Rattle.tariff.specs.declared.Tariff.{Tariff}

-- the started thousands cover the units, and one less would not
pub record Covering (n k : ℕ) : Type 0 where
  pub covers : n ≤ 1000 * k
  pub no_more : 1000 * k < n + 1000

pub started-covers : (n : ℕ) → Covering n (started_thousands n)
started-covers n = record { covers = omega arith; no_more = omega arith }

-- the bill from the started thousands
module _ (t : Tariff) (memory load k j : ℕ) (e : k ≡ started_thousands memory) (f : j ≡ started_thousands load) where
  -- the charge as it is worked out
  abbrev pub charge : ℕ
  charge = k * t.memory_rate + j * t.load_rate

  -- the greater of the charge and the minimum
  pub bill-is : (bill : ℕ) → bill ≡ max t.minimum charge → bill ≡ bill_of t memory load
  unfolding bill_of
  bill-is bill b = go (ltb charge t.minimum) refl
    where
      go : (c : Bool) → ltb charge t.minimum ≡ c → bill ≡ bill_of t memory load
      go true low = rw (← e, ← f, low) (omega (arith, b, ltb-true charge t.minimum low))
      go false enough = rw (← e, ← f, enough) (omega (arith, b, ltb-false charge t.minimum enough))
