-- Laws of sums and touches: what a step that touches a segment adds and touches, what an idle step does, and sums over touches within a
-- bound.
use Prim.Native.Nat.{ℕ, zero, suc, ◌+◌, ◌*◌, ◌≤◌, ◌<◌}
use mathlib.Core.Path.{◌≡◌, refl, ◌∙◌}
use mathlib.Core.Bool.{Bool, true, false, cond, ◌&&◌}
use mathlib.Core.Logic.{⊎_elim}
use native.Mathlib.Omega.{arith}
use lib.Dec.{eqb, ltb}
use borrow.Author.Tests.{ltb-true, ltb-false, lt-ltb, le-ltb, eqb-true}
use Rattle.model.specs.Sums.{sum}
use Rattle.model.specs.Traces.{Trace, segs, entry, touched, touching}
use Rattle.model.proofs.Sums.{sum-suc, sum-within, last-or-below}

-- a sum of more terms is no less
pub sum-grows : (m n : ℕ) (f : ℕ → ℕ) → m ≤ n → sum m f ≤ sum n f
unfolding sum
sum-grows m zero f le = let none : m ≡ 0 = omega arith in rw none (omega arith)
sum-grows m (suc n) f le =
    ⊎_elim (λ e. rw e (omega arith)) (λ l. omega (arith, sum-grows m n f (omega arith))) (last-or-below (suc n) m (omega arith))

-- either of two numbers within a bound
pub cond-within : (b : Bool) (x y c : ℕ) → x ≤ c → y ≤ c → cond b x y ≤ c
cond-within true x y c le le' = le
cond-within false x y c le le' = le'

module _ (T : Trace) where
  pub touching-on : (f : ℕ → ℕ → ℕ) (t : ℕ) → entry T t < segs T → touching T f t ≡ f t (entry T t)
  unfolding touching
  touching-on f t on = rw (lt-ltb (entry T t) (segs T) on)

  pub touching-off : (f : ℕ → ℕ → ℕ) (t : ℕ) → segs T ≤ entry T t → touching T f t ≡ 0
  unfolding touching
  touching-off f t off = rw (le-ltb (entry T t) (segs T) off)

  -- the sum over the touches of one step more
  pub adds_on : (f : ℕ → ℕ → ℕ) (t : ℕ) → entry T t < segs T → sum (suc t) (touching T f) ≡ sum t (touching T f) + f t (entry T t)
  adds_on f t on = sum-suc t (touching T f) ∙ rw (touching-on f t on)

  pub adds-off : (f : ℕ → ℕ → ℕ) (t : ℕ) → segs T ≤ entry T t → sum (suc t) (touching T f) ≡ sum t (touching T f)
  adds-off f t off = sum-suc t (touching T f) ∙ rw (touching-off f t off) (omega arith)

  -- what a step adds is ordered as what a touch in it adds
  pub touching-le : (f g : ℕ → ℕ → ℕ) (t : ℕ) → f t (entry T t) ≤ g t (entry T t) → touching T f t ≤ touching T g t
  unfolding touching
  touching-le f g t le = go (ltb (entry T t) (segs T)) refl
    where
      go : (b : Bool) → ltb (entry T t) (segs T) ≡ b → touching T f t ≤ touching T g t
      go true e = rw e le
      go false e = rw e (omega arith)

  -- where each touch adds at most c, n steps add at most n × c
  pub touches-within : (f : ℕ → ℕ → ℕ) (c n : ℕ) → ((t i : ℕ) → f t i ≤ c) → sum n (touching T f) ≤ n * c
  unfolding touching
  touches-within f c n le = sum-within n c (touching T f) (λ t lt. go t (ltb (entry T t) (segs T)) refl)
    where
      go : (t : ℕ) (b : Bool) → ltb (entry T t) (segs T) ≡ b → touching T f t ≤ c
      go t true e = rw e (le t (entry T t))
      go t false e = rw e (omega arith)

  -- a step that touches a segment touches the entry, and an idle one nothing
  pub touched-on : (t i : ℕ) → entry T t < segs T → touched T t i ≡ eqb (entry T t) i
  touched-on t i on = go (eqb (entry T t) i) refl (ltb i (segs T)) refl
    where
      go : (b : Bool) → eqb (entry T t) i ≡ b → (c : Bool) → ltb i (segs T) ≡ c → ltb i (segs T) && eqb (entry T t) i ≡ eqb (entry T t) i
      go b e true l = rw l
      go true e false l = absurd (omega (arith, eqb-true (entry T t) i e, ltb-false i (segs T) l))
      go false e false l = rw (e, l)

  pub touched-off : (t i : ℕ) → segs T ≤ entry T t → touched T t i ≡ false
  touched-off t i off = go (eqb (entry T t) i) refl (ltb i (segs T)) refl
    where
      go : (b : Bool) → eqb (entry T t) i ≡ b → (c : Bool) → ltb i (segs T) ≡ c → ltb i (segs T) && eqb (entry T t) i ≡ false
      go b e false l = rw l
      go true e true l = absurd (omega (arith, eqb-true (entry T t) i e, ltb-true i (segs T) l))
      go false e true l = rw (e, l)
