-- The table of the values of all bytes as digits, entered one by one.
use Prim.Native.Nat.{ℕ, ◌≤◌, ◌<◌}
use mathlib.Core.Path.{◌≡◌}
use mathlib.Core.List.{List}
use native.Mathlib.Omega.{arith}
use lib.ListN.{length, get_or}
use Rattle.model.specs.Sums.{tabulate}
use Rattle.model.proofs.Tables.{list-tabulate, get_or-tabulate}
use Rattle.din.specs.Lines.{digit_of}

-- the values of the bytes below b
pub record Entered (values : List ℕ) (b : ℕ) : Type 0 where
  pub within : b ≤ 256
  pub whole : length values ≡ 256
  pub entries : (j : ℕ) → j < b → get_or values j 0 ≡ digit_of j

pub entered_all : (values : List ℕ) (b : ℕ) → Entered values b → 256 ≤ b → values ≡ tabulate 256 digit_of
entered_all values b t le = list-tabulate 256 digit_of values 0 t.whole (λ j lt. t.entries j (omega arith))

-- the value of a byte in it
pub value_of : (values : List ℕ) → values ≡ tabulate 256 digit_of → (b : ℕ) → b < 256 → get_or values b 0 ≡ digit_of b
value_of values e b lt = rw e (get_or-tabulate 256 digit_of b 0 lt)
