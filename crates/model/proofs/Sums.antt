-- Laws of `sum` and `tabulate`: pointwise order and equality, sums of sums, and the sum with one nonzero term.
use Prim.Native.Nat.{ℕ, zero, suc, ◌+◌, ◌*◌, ◌≤◌, ◌<◌}
use mathlib.Core.Path.{◌≡◌, refl}
use mathlib.Core.Logic.{◌⊎◌, inl, inr, ⊎_elim}
use mathlib.Core.Bool.{Bool, true, false, cond}
use native.Mathlib.Omega.{arith}
use lib.Dec.{eqb, ltb}
use borrow.Author.Tests.{eqb-true, eqb-false, lt-ltb, le-ltb, ltb-true, ltb-false}
use Rattle.model.specs.Sums.{sum}

pub sum-suc : (n : ℕ) (f : ℕ → ℕ) → sum (suc n) f ≡ sum n f + f n
unfolding sum
sum-suc n f = refl

pub sum-none : (f : ℕ → ℕ) → sum 0 f ≡ 0
unfolding sum
sum-none f = refl

pub sum-le : (n : ℕ) (f g : ℕ → ℕ) → ((t : ℕ) → t < n → f t ≤ g t) → sum n f ≤ sum n g
unfolding sum
sum-le zero f g le = omega arith
sum-le (suc n) f g le = omega (arith, sum-le n f g (λ t h. le t (omega arith)), le n (omega arith))

pub sum-eq : (n : ℕ) (f g : ℕ → ℕ) → ((t : ℕ) → t < n → f t ≡ g t) → sum n f ≡ sum n g
unfolding sum
sum-eq zero f g eq = refl
sum-eq (suc n) f g eq = omega (arith, sum-eq n f g (λ t h. eq t (omega arith)), eq n (omega arith))

pub sum-add : (n : ℕ) (f g : ℕ → ℕ) → sum n (λ t. f t + g t) ≡ sum n f + sum n g
unfolding sum
sum-add zero f g = refl
sum-add (suc n) f g = omega (arith, sum-add n f g)

pub sum-mul : (c n : ℕ) (f : ℕ → ℕ) → sum n (λ t. c * f t) ≡ c * sum n f
unfolding sum
sum-mul c zero f = omega arith
sum-mul c (suc n) f = omega (arith, sum-mul c n f)

pub sum-zero : (n : ℕ) (f : ℕ → ℕ) → ((t : ℕ) → t < n → f t ≡ 0) → sum n f ≡ 0
unfolding sum
sum-zero zero f eq = refl
sum-zero (suc n) f eq = omega (arith, sum-zero n f (λ t h. eq t (omega arith)), eq n (omega arith))

-- an index below n + 1 is n or below n
pub last-or-below : (n t : ℕ) → t < suc n → (t ≡ n) ⊎ (t < n)
last-or-below n t lt = go (eqb t n) refl
  where
    go : (b : Bool) → eqb t n ≡ b → (t ≡ n) ⊎ (t < n)
    go true e = inl (eqb-true t n e)
    go false e = let ne = eqb-false t n e in inr (omega arith)

-- every term is within the sum
pub term-le : (n t : ℕ) (f : ℕ → ℕ) → t < n → f t ≤ sum n f
unfolding sum
term-le zero t f lt = absurd (omega arith)
term-le (suc n) t f lt =
    ⊎_elim (λ e. rw e (omega arith)) (λ l. omega (arith, term-le n t f l)) (last-or-below n t lt)

-- the sum of what is f i at i = x and 0 elsewhere
pub sum-at : (n x : ℕ) (f : ℕ → ℕ) → sum n (λ i. cond (eqb x i) (f i) 0) ≡ cond (ltb x n) (f x) 0
unfolding sum
sum-at zero x f = rw (le-ltb x 0 (omega arith))
sum-at (suc n) x f = rw (sum-at n x f) (go (eqb x n) refl (ltb x n) refl)
  where
    go : (b : Bool) → eqb x n ≡ b → (l : Bool) → ltb x n ≡ l
        → cond (ltb x n) (f x) 0 + cond (eqb x n) (f n) 0 ≡ cond (ltb x (suc n)) (f x) 0
    go true e l k =
        let same = eqb-true x n e in
        rw (e, le-ltb x n (omega arith), lt-ltb x (suc n) (omega arith)) (rw same (omega arith))
    go false e true l = rw (e, l, lt-ltb x (suc n) (omega (arith, ltb-true x n l))) (omega arith)
    go false e false l =
        let ne = eqb-false x n e in
        rw (e, l, le-ltb x (suc n) (omega (arith, ltb-false x n l))) refl

-- a sum of n terms within b
pub sum-within : (n b : ℕ) (f : ℕ → ℕ) → ((t : ℕ) → t < n → f t ≤ b) → sum n f ≤ n * b
unfolding sum
sum-within zero b f le = omega arith
sum-within (suc n) b f le = omega (arith, sum-within n b f (λ t l. le t (omega arith)), le n (omega arith))

-- terms that are each within another, one of them less, have the lesser sum; where the sum is not less, no term is
pub sum_lt : (n s : ℕ) (f g : ℕ → ℕ) → s < n → ((t : ℕ) → t < n → f t ≤ g t) → f s < g s → sum n f < sum n g
unfolding sum
sum_lt zero s f g ls le lt = absurd (omega arith)
sum_lt (suc n) s f g ls le lt =
    ⊎_elim
    (λ e. let here = rw e at lt in omega (arith, sum-le n f g (λ t l. le t (omega arith))))
    (λ l. omega (arith, sum_lt n s f g l (λ t k. le t (omega arith)) lt, le n (omega arith)))
    (last-or-below n s ls)

pub sum-tight : (n : ℕ) (f g : ℕ → ℕ) → ((t : ℕ) → t < n → f t ≤ g t) → sum n g ≤ sum n f → (t : ℕ) → t < n → f t ≡ g t
sum-tight n f g le whole t lt = go (eqb (f t) (g t)) refl
  where
    go : (b : Bool) → eqb (f t) (g t) ≡ b → f t ≡ g t
    go true e = eqb-true (f t) (g t) e
    go false e =
        let ne = eqb-false (f t) (g t) e in
        absurd (omega (arith, sum_lt n t f g lt le (omega (arith, le t lt))))
