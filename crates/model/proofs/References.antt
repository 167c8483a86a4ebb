-- Where the n-th reference stands: in a step with a touch, with n - 1 references before it.
use Prim.Native.Nat.{ℕ, zero, suc, pred, ◌+◌, ◌≤◌, ◌<◌}
use mathlib.Core.Path.{◌≡◌, refl, ap}
use mathlib.Core.Bool.{Bool, true, false, cond}
use native.Mathlib.Omega.{arith}
use borrow.Author.Tests.{ltb-true, lt-ltb, le-ltb, leb-true, leb-false, le-leb, lt-leb}
use lib.Dec.{leb, ltb}
use Rattle.model.specs.Traces.{Trace, segs, steps, entry, touching, refs_by, refs_of, ref_place, place_of}
use Rattle.model.proofs.Sums.{sum-suc, sum-none}

-- p is the place of the n-th reference from place t on, among k steps
pub record IsPlace (T : Trace) (k t n p : ℕ) : Type 0 where
  pub from : t ≤ p
  pub below : p < t + k
  pub touches : entry T p < segs T
  pub before : suc (refs_by T p) ≡ refs_by T t + n

module _ (T : Trace) where
  -- one step more
  pub refs_next : (t : ℕ) → refs_by T (suc t) ≡ refs_by T t + cond (ltb (entry T t) (segs T)) 1 0
  unfolding refs_by touching
  refs_next t = sum-suc t (touching T (λ s i. 1))

  -- later steps have no fewer references before them
  pub refs_rise : (t k : ℕ) → refs_by T t ≤ refs_by T (t + k)
  refs_rise t zero = let e : t + 0 ≡ t = omega arith in rw e (omega arith)
  refs_rise t (suc k) = let e : t + suc k ≡ suc (t + k) = omega arith in rw e (omega (arith, refs_rise t k, refs_next (t + k)))

  -- the search at a step without a touch, at the touch that is looked for, and at another
  module _ (k t n : ℕ) where
    pub search_idle : segs T ≤ entry T t → ref_place T (suc k) t n ≡ ref_place T k (suc t) n
    unfolding ref_place
    search_idle h = rw (le-ltb (entry T t) (segs T) h)

    pub search_found : entry T t < segs T → n ≤ 1 → ref_place T (suc k) t n ≡ t
    unfolding ref_place
    search_found h l = rw (lt-ltb (entry T t) (segs T) h, le-leb n 1 l)

    pub search_on : entry T t < segs T → 1 < n → ref_place T (suc k) t n ≡ ref_place T k (suc t) (pred n)
    unfolding ref_place
    search_on h l = rw (lt-ltb (entry T t) (segs T) h, lt-leb n 1 l)

  -- the place that the search gives
  ref_place_is : (k t n : ℕ) → 1 ≤ n → refs_by T t + n ≤ refs_by T (t + k) → IsPlace T k t n (ref_place T k t n)
  unfolding ref_place
  ref_place_is zero t n pos le = let e : t + 0 ≡ t = omega arith in absurd (omega (arith, ap (refs_by T) e))
  ref_place_is (suc k) t n pos le =
      let e : t + suc k ≡ suc t + k = omega arith in
      go (ltb (entry T t) (segs T)) refl (refs_next t) (rw e at le) (ref_place_is k (suc t))
    where
      -- found from the next place on
      found : (m p : ℕ) → refs_by T (suc t) + m ≡ refs_by T t + n → IsPlace T k (suc t) m p → IsPlace T (suc k) t n p
      found m p e i =
          record { from = omega (arith, i.from); below = omega (arith, i.below); touches = i.touches; before = omega (arith, i.before) }

      go : (b : Bool) → ltb (entry T t) (segs T) ≡ b → refs_by T (suc t) ≡ refs_by T t + cond b 1 0
          → refs_by T t + n ≤ refs_by T (suc t + k)
          → ((m : ℕ) → 1 ≤ m → refs_by T (suc t) + m ≤ refs_by T (suc t + k) → IsPlace T k (suc t) m (ref_place T k (suc t) m))
          → IsPlace T (suc k) t n (cond b (cond (leb n 1) t (ref_place T k (suc t) (pred n))) (ref_place T k (suc t) n))
      go true e f l rest = at (leb n 1) refl
        where
          at : (c : Bool) → leb n 1 ≡ c → IsPlace T (suc k) t n (cond c t (ref_place T k (suc t) (pred n)))
          at true g =
              record {
                from = omega arith;
                below = omega arith;
                touches = ltb-true (entry T t) (segs T) e;
                before = omega (arith, leb-true n 1 g);
              }
          at false g =
              let m = leb-false n 1 g in
              found (pred n) _ (omega (arith, m)) (rest (pred n) (omega (arith, m)) (omega (arith, m)))
      go false e f l rest = found n _ (omega arith) (rest n pos (omega arith))

  -- no step has no reference
  pub refs_none : refs_by T 0 ≡ 0
  unfolding refs_by
  refs_none = sum-none (touching T (λ s i. 1))

  -- the n-th reference
  pub place_is : (n : ℕ) → 1 ≤ n → n ≤ refs_of T → IsPlace T (steps T) 0 n (place_of T n)
  place_is n pos le =
      let e : 0 + steps T ≡ steps T = omega arith in
      ref_place_is (steps T) 0 n pos (rw e (omega (arith, le, refs_none)))
