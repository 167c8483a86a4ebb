-- Laws of reading a number within bounds: when each answer is given, and that reading undoes writing.
use mathlib.Core.Path.{◌≡◌, refl, sym, ap, ◌∙◌}
use mathlib.Core.Bool.{Bool, true, false, cond, ◌&&◌}
use mathlib.Core.List.{List}
use Prim.Native.Nat.{ℕ, ◌≤◌}
use native.Mathlib.Omega.{arith}
use borrow.Author.Tests.{le-leb, lt-leb, leb-true}
use borrow.Table.Steps.{cases}
use lib.Dec.{leb}
use Rattle.std.specs.Prelude.{Ok, Err}
use Rattle.decimal.specs.declared.NumberError.TheVariants.{NotNumber, OutOfRange}
use Rattle.decimal.specs.Decimal.{is_number, value, written, reading_of}
use Rattle.decimal.proofs.Digits.{both}
use Rattle.decimal.proofs.Written.{written-number, written-value, written_of}

module _ (lo hi : ℕ) (s : List ℕ) where
  -- what is no number
  pub reading-none : is_number s ≡ false → reading_of lo hi s ≡ Err NotNumber
  reading-none e = rw e

  -- a number within the bounds
  pub reading-within : is_number s ≡ true → lo ≤ value s → value s ≤ hi → reading_of lo hi s ≡ Ok (value s)
  reading-within e l h = rw (e, le-leb lo (value s) l, le-leb (value s) hi h)

  -- a number outside them
  pub reading-out : is_number s ≡ true → (lo ≤ value s → value s ≤ hi → ⊥) → reading_of lo hi s ≡ Err OutOfRange
  reading-out e n =
      let high : lo ≤ value s → leb (value s) hi ≡ false = λ l. lt-leb (value s) hi (omega (arith, n l)) in
      rw e (cases (leb lo (value s)) (λ l. rw (l, high (leb-true lo (value s) l))) (λ l. rw l))

-- what is written within the bounds is read back
pub reading-written : (lo hi n : ℕ) → lo ≤ n → n ≤ hi → reading_of lo hi (written n) ≡ Ok n
reading-written lo hi n l h =
    let e = written-value n in
    reading-within lo hi (written n) (written-number n) (omega arith) (omega arith) ∙ ap Ok e

-- the tests that lead to a number
number-tests : (t u : Bool) (v n : ℕ) → cond t (cond u (Ok v) (Err OutOfRange)) (Err NotNumber) ≡ Ok n
    → (t ≡ true) × (u ≡ true) × (v ≡ n)
number-tests true true v n e = (refl, refl, cc)
number-tests true false v n e = (refl, (cc), (cc))
number-tests false u v n e = ((cc), (cc), (cc))

-- what is read is what the number is written as, and lies within the bounds
pub reading-number : (lo hi : ℕ) (s : List ℕ) (n : ℕ) → reading_of lo hi s ≡ Ok n → (s ≡ written n) × (lo ≤ n) × (n ≤ hi)
reading-number lo hi s n e =
    let (t, u, v) = number-tests (is_number s) (leb lo (value s) && leb (value s) hi) (value s) n e in
    let (l, h) = both (leb lo (value s)) (leb (value s) hi) u in
    (sym (written_of s t) ∙ ap written v, omega (arith, leb-true lo (value s) l), omega (arith, leb-true (value s) hi h))
