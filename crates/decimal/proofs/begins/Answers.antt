-- `decimal::begins` meets its contract: a list is empty, has one byte, or has more.
use mathlib.Core.Path.{◌≡◌, refl, sym}
use mathlib.Core.Bool.{Bool, true, false, not, ◌&&◌}
use mathlib.Core.List.{List, [], ◌∷◌}
use Prim.Native.Nat.{ℕ, ◌≤◌}
use native.Mathlib.Omega.{arith}
use lib.Dec.{eqb}
use lib.ListN.{length, get_or}
use Rattle.decimal.specs.Decimal.{is_digit, all_digits, is_number}
use Rattle.decimal.proofs.begins.Goals as goal

-- no byte: no number
none : (s : List ℕ) → length s ≡ 0 → is_number s ≡ false
unfolding is_number
none [] e = refl
none (b ∷ s) e = absurd (omega arith)

-- a test with one that holds
and-true : (b : Bool) → (b && true) ≡ b
and-true true = refl
and-true false = refl

-- one byte: a number where it is a digit
one : (s : List ℕ) → length s ≡ 1 → is_number s ≡ all_digits s
unfolding is_number all_digits
one [] e = absurd (omega arith)
one (b ∷ []) e = sym (and-true (is_digit b))
one (b ∷ c ∷ s) e = absurd (omega arith)

-- more: a number where the first is not 48 and all are digits
more : (s : List ℕ) → 2 ≤ length s → is_number s ≡ (not (eqb (get_or s 0 0) 48) && all_digits s)
unfolding is_number
more [] l = absurd (omega arith)
more (b ∷ []) l = absurd (omega arith)
more (b ∷ c ∷ s) l = refl

pub returns-in-empty : goal.returns-in-empty
returns-in-empty c = none _ (omega arith)

pub returns-in-len1 : goal.returns-in-len1
returns-in-len1 c = one _ (omega arith)

pub returns-in-len1-up : goal.returns-in-len1-up
returns-in-len1-up c = more _ (omega arith)
