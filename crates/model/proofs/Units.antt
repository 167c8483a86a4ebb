-- An amount in units is its number.
use Prim.Native.Nat.{ℕ}
use mathlib.Core.Path.{◌≡◌, ap}
use Rattle.model.specs.declared.LoadUnits.{LoadUnits}
use Rattle.model.specs.declared.MemoryUnits.{MemoryUnits}

pub memory_is : {u : MemoryUnits} {n : ℕ} → u.0 ≡ n → u ≡ record { 0 = n }
memory_is e = ap {B = MemoryUnits} (λ n. record { 0 = n }) e

pub load_is : {u : LoadUnits} {n : ℕ} → u.0 ≡ n → u ≡ record { 0 = n }
load_is e = ap {B = LoadUnits} (λ n. record { 0 = n }) e
