-- Each touched segment has one first touch: a sum over the touched segments is the same sum over the first touches.
use Prim.Native.Nat.{ℕ, zero, suc, ◌+◌}
use mathlib.Core.Path.{◌≡◌, refl}
use mathlib.Core.Bool.{Bool, true, false, cond}
use mathlib.Core.Option.{Option, none, some}
use native.Mathlib.Omega.{arith}
use Rattle.model.specs.Sums.{sum}
use Rattle.model.specs.Traces.{Trace, segs, touched, touching, later, unreferenced}
use Rattle.model.specs.Figures.{is_reuse}
use Rattle.model.proofs.Sums.{sum-none, sum-suc, sum-eq, sum-add, sum-zero}
use Rattle.model.proofs.Touches.{touching-sum, unreferenced-none}

module _ (T : Trace) (g : ℕ → ℕ) where
  -- g of the segments touched within n steps
  abbrev pub touched_of : ℕ → ℕ → ℕ
  touched_of n i = cond (is_reuse (unreferenced T n i)) (g i) 0

  -- g of the first touches
  abbrev pub first_of : ℕ → ℕ → ℕ
  first_of t i = cond (is_reuse (unreferenced T t i)) 0 (g i)

  -- one step adds g of a first touch to the touched segments, and nothing else
  first-touch : (t i : ℕ) → touched_of (suc t) i ≡ touched_of t i + cond (touched T t i) (first_of t i) 0
  unfolding unreferenced later
  first-touch t i = go (touched T t i) (unreferenced T t i) (g i)
    where
      go : (b : Bool) (o : Option ℕ) (x : ℕ)
          → cond (is_reuse (cond b (some 0) (later o))) x 0 ≡ cond (is_reuse o) x 0 + cond b (cond (is_reuse o) 0 x) 0
      go true none x = omega arith
      go true (some k) x = omega arith
      go false none x = omega arith
      go false (some k) x = omega arith

  -- g of the segments that count as touched before step 1
  abbrev pub started : ℕ
  started = sum (segs T) (λ i. cond (T.start i) (g i) 0)

  touched_none : sum (segs T) (touched_of 0) ≡ started
  touched_none =
      sum-eq (segs T) (touched_of 0) (λ i. cond (T.start i) (g i) 0) (λ i lt. rw (unreferenced-none T i) (go (T.start i) (g i)))
    where
      go : (b : Bool) (x : ℕ) → cond (is_reuse (cond b (some 0) none)) x 0 ≡ cond b x 0
      go true x = refl
      go false x = refl

  -- the segments touched within n steps are those of the start set and of the first touches in them
  pub first-touches-from : (n : ℕ) → sum (segs T) (touched_of n) ≡ started + sum n (touching T first_of)
  first-touches-from zero = omega (arith, touched_none, sum-none (touching T first_of))
  first-touches-from (suc n) =
      let new : ℕ → ℕ = λ i. cond (touched T n i) (first_of n i) 0 in
      omega (
        arith,
        sum-eq (segs T) (touched_of (suc n)) (λ i. touched_of n i + new i) (λ i lt. first-touch n i),
        sum-add (segs T) (touched_of n) new,
        touching-sum T first_of n,
        sum-suc n (touching T first_of),
        first-touches-from n,
      )

  -- with an empty start set they are those of the first touches
  pub none-started : ((i : ℕ) → T.start i ≡ false) → started ≡ 0
  none-started fresh = sum-zero (segs T) (λ i. cond (T.start i) (g i) 0) (λ i lt. rw (fresh i))

  pub first-touches : ((i : ℕ) → T.start i ≡ false) → (n : ℕ) → sum (segs T) (touched_of n) ≡ sum n (touching T first_of)
  first-touches fresh n = omega (arith, first-touches-from n, none-started fresh)
