-- The last k digits of a number, before a list: what a writer that goes from the last digit to the first has yet to write.
use mathlib.Core.Path.{◌≡◌, refl, sym, ap, ◌∙◌}
use mathlib.Core.List.{List, ◌∷◌, ◌++◌, append_assoc}
use Prim.Native.Nat.{ℕ, zero, suc, ◌+◌, ◌*◌, ◌/◌, ◌%◌, ◌≤◌, ◌<◌}
use native.Mathlib.Nat.{add-zero, add-suc}
use native.Mathlib.Numerals.{add-one}
use native.Mathlib.Omega.{arith}
use lib.ListN.{length, take, drop, set, length-append, length-set, take-append-drop}
use lib.Seq.{length-take-le, set_split, drop_at, take-set-le}
use Rattle.decimal.specs.Decimal.{written}
use Rattle.decimal.proofs.Written.{by_digits, written_low, written-high}

-- the last k digits of n, and then s
unfoldable pub padded : ℕ → ℕ → List ℕ → List ℕ
padded zero n s = s
padded (suc k) n s = padded k (n / 10) ((48 + n % 10) ∷ s)

-- as many digits as n is written with are those that it is written with
pub padded-written : (n : ℕ) (s : List ℕ) → padded (length (written n)) n s ≡ written n ++ s
unfolding padded
padded-written =
    by_digits (λ n. (s : List ℕ) → padded (length (written n)) n s ≡ written n ++ s)
    (λ n h s. rw (written_low n h) (ap (λ d. (48 + d) ∷ s) (omega arith)))
    (λ n h e s. rw (written-high n h, length-append, add-one, append_assoc) (e ((48 + n % 10) ∷ s)))

-- a write at i is the first element from i on
drop-set : (l : List ℕ) (i a : ℕ) → i < length l → drop i (set l i a) ≡ a ∷ drop (suc i) l
drop-set l i a h = rw (set_split l i a h) (drop_at (take i l) (a ∷ drop (suc i) l) i (length-take-le i l (omega arith)))

-- out becomes t once the last k digits of n are written into it from the place at on
pub record Filling (at : ℕ) (t out : List ℕ) (n k : ℕ) : Type 0 where
  pub room : at + k ≤ length out
  pub whole : take at out ++ padded k n (drop (at + k) out) ≡ t

-- before the first write
pub fill_start : (at n : ℕ) (out : List ℕ) → at + length (written n) ≤ length out
    → Filling at (take at out ++ (written n ++ drop (at + length (written n)) out)) out n (length (written n))
fill_start at n out h = record { room = h; whole = rw padded-written }

-- after the write of one digit, the last that was not written
pub fill_step : (at : ℕ) (t out : List ℕ) (n k j : ℕ) → Filling at t out n k → k ≡ suc j
    → Filling at t (set out (at + j) (48 + n % 10)) (n / 10) j
unfolding padded
fill_step at t out n k j c e =
    record {
      room = rw length-set (omega (arith, c.room));
      whole =
          rw (take-set-le at out (at + j) (48 + n % 10) (omega arith), drop-set out (at + j) (48 + n % 10) (omega (arith, c.room)))
          (rw (e, add-suc) at c.whole);
    }

-- the last digit of a number from its other digits and it
last-digit : (q d : ℕ) → d < 10 → (q * 10 + d) % 10 ≡ d
last-digit q d h = omega arith

-- after the write of two digits, the last that were not written
pub fill-pair : (at : ℕ) (t out : List ℕ) (n k j : ℕ) → Filling at t out n k → k ≡ suc (suc j)
    → Filling at t (set (set out (at + j + 1) (48 + n % 100 % 10)) (at + j) (48 + n % 100 / 10)) (n / 100) j
fill-pair at t out n k j c e =
    let place : at + suc j ≡ at + j + 1 = omega arith in
    let last : n % 10 ≡ n % 100 % 10 = omega arith in
    let tens : n / 10 ≡ n / 100 * 10 + n % 100 / 10 = omega arith in
    let first : n / 10 % 10 ≡ n % 100 / 10 = rw tens (last-digit (n / 100) (n % 100 / 10) (omega arith)) in
    let rest : n / 10 / 10 ≡ n / 100 = omega arith in
    rw (rest, first, last, place) at (fill_step at t _ (n / 10) (suc j) j (fill_step at t out n k (suc j) c e) refl)

-- out with the two digits of p at the places at and at + 1
abbrev pub with_pair : List ℕ → ℕ → ℕ → List ℕ
with_pair out at p = set (set out (at + 1) (48 + p % 10)) at (48 + p / 10)

-- the same, of what out becomes
pub fill-two : (at : ℕ) (t out : List ℕ) (n k j : ℕ) {o : List ℕ} → Filling at t out n k → k ≡ suc (suc j)
    → o ≡ with_pair out (at + j) (n % 100) → Filling at t o (n / 100) j
fill-two at t out n k j c e w = rw w (fill-pair at t out n k j c e)

-- after the last write
pub fill_end : (at : ℕ) (t out : List ℕ) (n k : ℕ) → Filling at t out n k → k ≡ 0 → out ≡ t
unfolding padded
fill_end at t out n k c e = sym (take-append-drop at out) ∙ (rw (e, add-zero) at c.whole)

-- with one digit left, its write is the last
pub fill-last : (at : ℕ) (t out : List ℕ) (n k : ℕ) → Filling at t out n k → k ≡ 1 → n < 10 → set out at (48 + n) ≡ t
fill-last at t out n k c e h =
    let one : n % 10 ≡ n = omega arith in
    rw (one, add-zero) at (fill_end at t _ (n / 10) 0 (fill_step at t out n k 0 c e) refl)

-- with two left, the write of the pair
pub fill-last-two : (at : ℕ) (t out : List ℕ) (n k : ℕ) {o : List ℕ} → Filling at t out n k → k ≡ 2 → n < 100
    → o ≡ with_pair out at n → o ≡ t
fill-last-two at t out n k c e h w =
    let two : n % 100 ≡ n = omega arith in
    w ∙ rw (two, add-zero) at (fill_end at t _ (n / 100) 0 (fill-pair at t out n k 0 c e) refl)
