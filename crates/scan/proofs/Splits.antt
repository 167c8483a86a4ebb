-- Laws of splitting bytes at the first byte c, and of comparing two runs of bytes.
use Prim.Native.Nat.{ℕ, zero, suc, ◌+◌, ◌≤◌, ◌<◌}
use mathlib.Core.Path.{◌≡◌, refl, sym, ap, ◌∙◌}
use mathlib.Core.Bool.{false, cond}
use mathlib.Core.List.{List, [], ◌∷◌}
use native.Mathlib.Nat.{le_of_suc-le-suc}
use native.Mathlib.Omega.{arith}
use borrow.Author.Tests.{lt-ltb, le-ltb, ltb-true, ltb-false, eq-eqb, ne_eqb, eqb-true, eqb-false}
use borrow.Table.Steps.{cases}
use lib.Dec.{ltb, eqb}
use lib.ListN.{length, get_or, take, drop}
use Rattle.std.specs.List.{position_or_len}
use Rattle.std.specs.Prelude.{Option, Some, None}
use Rattle.std.specs.Cmp.Lexicographic.{pointwise}
use Rattle.sheet.specs.Lines.{parts, none, and_before, split_at, same_bytes}
use Rattle.scan.specs.inner.AtPlace.{split_at_place, FoundAt}

-- a place within the bytes splits them, and any other does not
pub place-within : (s : List ℕ) (k : ℕ) → k < length s → split_at_place s k ≡ parts (take k s) (drop (suc k) s)
place-within s k h = rw (lt-ltb k (length s) h)

pub place-beyond : (s : List ℕ) (k : ℕ) → length s ≤ k → split_at_place s k ≡ none
place-beyond s k h = rw (le-ltb k (length s) h)

-- one byte more in front of a split
place-suc : (b : ℕ) (s : List ℕ) (k : ℕ) → and_before b (split_at_place s k) ≡ split_at_place (b ∷ s) (suc k)
place-suc b s k =
    cases (ltb k (length s)) (λ e. rw (e, lt-ltb (suc k) (suc (length s)) (omega (arith, ltb-true k (length s) e))))
    (λ e. rw (e, le-ltb (suc k) (suc (length s)) (omega (arith, ltb-false k (length s) e))))

-- the place of the first byte c splits the bytes as the definition does; the length stands for no such place
pub split-first : (c : ℕ) (s : List ℕ) (k : ℕ) → k ≤ length s → ((j : ℕ) → j < k → get_or s j 0 ≡ c → ⊥)
    → (k < length s → get_or s k 0 ≡ c) → split_at c s ≡ split_at_place s k
unfolding split_at
split-first c [] k h n f = sym (place-beyond [] k (omega arith))
split-first c (b ∷ s) zero h n f = rw (eq-eqb b c (f (omega arith)), lt-ltb 0 (suc (length s)) (omega arith))
split-first c (b ∷ s) (suc k) h n f =
    rw (
      ne_eqb b c (n zero (omega arith)),
      split-first c s k (le_of_suc-le-suc h) (λ j l. n (suc j) (omega arith)) (λ l. f (omega arith)),
    )
    (place-suc b s k)

-- runs of different lengths differ
pub same-lengths : (s t : List ℕ) → (length s ≡ length t → ⊥) → same_bytes s t ≡ false
unfolding same_bytes
same-lengths [] [] n = absurd (n refl)
same-lengths [] (y ∷ t) n = refl
same-lengths (x ∷ s) [] n = refl
same-lengths (x ∷ s) (y ∷ t) n = cases (eqb x y) (λ e. rw e (same-lengths s t (λ l. n (ap suc l)))) (λ e. rw e)

-- `==` of the bytes, one by one, is the same
pub same-is : (s t : List ℕ) → pointwise eqb s t ≡ same_bytes s t
unfolding same_bytes
same-is [] [] = refl
same-is [] (y ∷ t) = refl
same-is (x ∷ s) [] = refl
same-is (x ∷ s) (y ∷ t) = cases (eqb x y) (λ e. rw e (same-is s t)) (λ e. rw e)

-- so is that of the bytes exchanged
eqb-swap : (x y : ℕ) → eqb y x ≡ eqb x y
eqb-swap x y =
    cases (eqb x y) (λ e. eq-eqb y x (sym (eqb-true x y e)) ∙ sym e) (λ e. ne_eqb y x (λ h. eqb-false x y e (sym h)) ∙ sym e)

pub same-swap : (s t : List ℕ) → pointwise eqb t s ≡ same_bytes s t
unfolding same_bytes
same-swap [] [] = refl
same-swap [] (y ∷ t) = refl
same-swap (x ∷ s) [] = refl
same-swap (x ∷ s) (y ∷ t) = rw (eqb-swap x y) (cases (eqb x y) (λ e. rw e (same-swap s t)) (λ e. rw e))

-- the place of the first byte c, or the length
record FirstPlace (c : ℕ) (s : List ℕ) (place : ℕ) : Type 0 where
  within : place ≤ length s
  split : split_at c s ≡ split_at_place s place

place-found : (c : ℕ) (s : List ℕ) → FirstPlace c s (position_or_len (λ b. eqb b c) s)
unfolding split_at
place-found c [] = record { within = omega arith; split = refl }
place-found c (b ∷ s) =
    let f = place-found c s in
    cases (eqb b c) (λ e. rw e (record { within = omega arith; split = rw (e, lt-ltb 0 (suc (length s)) (omega arith)) }))
    (λ e. rw e (record { within = omega (arith, f.within); split = rw e (ap (and_before b) f.split ∙ (place-suc b s _ ∙ ap (split_at_place (b ∷ s)) (one-more _))) }))
  where
    one-more : (n : ℕ) → suc n ≡ 1 + n
    one-more n = omega arith

-- as a search gives it
pub place-if-any : (c : ℕ) (s : List ℕ) (r : Option ℕ)
    → r ≡ cond (ltb (position_or_len (λ b. eqb b c) s) (length s)) (Some (position_or_len (λ b. eqb b c) s)) None → FoundAt c s r
place-if-any c s r e =
    let f = place-found c s in
    let k = position_or_len (λ b. eqb b c) s in
    rw e
    (cases (ltb k (length s)) (λ t. rw t (record { within = ltb-true k (length s) t; split = f.split }))
    (λ t. rw t (record { within = tt; split = f.split ∙ place-beyond s k (ltb-false k (length s) t) })))
