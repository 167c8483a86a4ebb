-- The recency list has each segment touched so far, once; the entries looked at are within refs × the distinct segments; the misses never
-- rise with the number of frames, and end at the number of distinct segments.
use Prim.Native.Nat.{ℕ, zero, suc, ◌*◌, ◌≤◌, ◌<◌}
use mathlib.Core.Path.{◌≡◌, refl, sym, ◌∙◌}
use mathlib.Core.Bool.{Bool, true, false, cond, ◌||◌}
use mathlib.Core.Option.{Option, none, some}
use lib.Dec.{ltb}
use lib.ListN.{length}
use lib.Seq.{take_all}
use borrow.Author.Tests.{ltb-true, ltb-false, lt-ltb, le-ltb}
use native.Mathlib.Omega.{arith}
use Rattle.model.specs.Figures.{is_reuse}
use Rattle.model.specs.Sums.{sum}
use Rattle.model.specs.Traces.{Trace, segs, steps, entry, touched, touching, refs_by, refs_of, later, unreferenced}
use Rattle.model.proofs.FirstTouches.{first_of, first-touches}
use Rattle.model.proofs.Loads.{over_touches-eq}
use Rattle.model.proofs.Sums.{sum-le, sum-mul, sum-within}
use Rattle.replacement.specs.Memory.{has}
use Rattle.replacement.specs.Orders.{to_front}
use Rattle.replacement.specs.Recency.{recency, distance, miss_beyond, lru_misses, looked_in, entries_looked, distinct}
use Rattle.replacement.proofs.Orders.{miss-has, has-front, length_front, looked-within}
use Rattle.replacement.proofs.Touches.{cond-within, sum-grows, touching-on, touching-off, touching-le}
use Rattle.replacement.proofs.Touches.{adds_on, adds-off, touched-on, touched-off}

-- misses never rise with the number of frames
pub misses-fall : (T : Trace) (k m : ℕ) → k ≤ m → lru_misses T m ≤ lru_misses T k
unfolding lru_misses
misses-fall T k m le =
    sum-le (steps T) (touching T (λ t i. miss_beyond m (distance T t i))) (touching T (λ t i. miss_beyond k (distance T t i)))
    (λ t lt. touching-le T (λ t i. miss_beyond m (distance T t i)) (λ t i. miss_beyond k (distance T t i)) t
    (each (distance T t (entry T t))))
  where
    at : (p : ℕ) (b : Bool) → ltb m p ≡ b → ◌≤◌ (cond (ltb m p) 1 0) (cond (ltb k p) 1 0)
    at p true e = rw (e, lt-ltb k p (omega (arith, ltb-true m p e))) (omega arith)
    at p false e = rw e (omega arith)

    each : (o : Option ℕ) → miss_beyond m o ≤ miss_beyond k o
    each none = omega arith
    each (some p) = at p (ltb m p) refl

-- the list after a touch, and after an idle step
pub recency-on : (T : Trace) (t : ℕ) → entry T t < segs T → recency T (suc t) ≡ to_front (entry T t) (recency T t)
unfolding recency
recency-on T t on = rw (lt-ltb (entry T t) (segs T) on)

pub recency-off : (T : Trace) (t : ℕ) → segs T ≤ entry T t → recency T (suc t) ≡ recency T t
unfolding recency
recency-off T t off = rw (le-ltb (entry T t) (segs T) off)

pub distinct-within : (T : Trace) (t : ℕ) → distinct T t ≤ segs T
unfolding distinct
distinct-within T t =
    let one : (i : ℕ) → cond (is_reuse (unreferenced T t i)) 1 0 ≤ 1 =
    λ i. cond-within (is_reuse (unreferenced T t i)) 1 0 1 (omega arith) (omega arith)
    in
    omega (arith, sum-within (segs T) 1 (λ i. cond (is_reuse (unreferenced T t i)) 1 0) (λ i lt. one i))

module _ (T : Trace) (fresh : (i : ℕ) → T.start i ≡ false) where
  -- 1 for a first touch
  abbrev first_touch : ℕ → ℕ → ℕ
  first_touch = first_of T (λ i. 1)

  -- the list has the segments touched so far
  pub has-recency : (t i : ℕ) → has i (recency T t) ≡ is_reuse (unreferenced T t i)
  unfolding has recency unreferenced later
  has-recency zero i = rw (fresh i)
  has-recency (suc t) i = go (ltb (entry T t) (segs T)) refl (has-recency t i)
    where
      reuse : (b : Bool) (o : Option ℕ) → is_reuse (cond b (some 0) (later o)) ≡ b || is_reuse o
      reuse true o = refl
      reuse false none = refl
      reuse false (some k) = refl

      go : (b : Bool) → ltb (entry T t) (segs T) ≡ b → has i (recency T t) ≡ is_reuse (unreferenced T t i)
          → has i (recency T (suc t)) ≡ is_reuse (cond (touched T t i) (some 0) (later (unreferenced T t i)))
      go true e ih =
          let on = ltb-true (entry T t) (segs T) e in
          rw (recency-on T t on, reuse (touched T t i) (unreferenced T t i), touched-on T t i on, ← ih)
          (has-front i (entry T t) (recency T t))
      go false e ih =
          let off = ltb-false (entry T t) (segs T) e in
          rw (recency-off T t off, reuse (touched T t i) (unreferenced T t i), touched-off T t i off) ih

  -- the distinct segments are the first touches
  pub distinct-firsts : (t : ℕ) → distinct T t ≡ sum t (touching T first_touch)
  unfolding distinct
  distinct-firsts t = first-touches T (λ i. 1) fresh t

  -- the length of the list
  pub length-recency : (t : ℕ) → length (recency T t) ≡ distinct T t
  unfolding recency sum
  length-recency t = go t ∙ sym (distinct-firsts t)
    where
      go : (n : ℕ) → length (recency T n) ≡ sum n (touching T first_touch)
      go zero = refl
      go (suc n) = at (ltb (entry T n) (segs T)) refl (go n)
        where
          at : (b : Bool) → ltb (entry T n) (segs T) ≡ b → length (recency T n) ≡ sum n (touching T first_touch)
              → length (recency T (suc n)) ≡ sum (suc n) (touching T first_touch)
          at true e ih =
              let on = ltb-true (entry T n) (segs T) e in
              rw (recency-on T n on, adds_on T first_touch n on, ← ih, ← has-recency n (entry T n)) (length_front (entry T n) (recency T n))
          at false e ih =
              let off = ltb-false (entry T n) (segs T) e in
              rw (recency-off T n off, adds-off T first_touch n off) ih

  pub recency-within : (t : ℕ) → length (recency T t) ≤ segs T
  recency-within t = omega (arith, length-recency t, distinct-within T t)

  list-within : (t : ℕ) → t < steps T → length (recency T t) ≤ distinct T (steps T)
  list-within t lt =
      let grows = sum-grows t (steps T) (touching T first_touch) (omega arith) in
      omega (arith, length-recency t, distinct-firsts t, distinct-firsts (steps T))

  -- the entries looked at never exceed refs × the distinct segments
  pub looked-bound : entries_looked T ≤ refs_of T * distinct T (steps T)
  unfolding entries_looked refs_by distance
  looked-bound =
      omega (
        arith,
        sum-le (steps T) (touching T (λ t i. looked_in (recency T t) (distance T t i)))
            (λ t. distinct T (steps T) * touching T (λ t i. 1) t)
            (λ t lt. each t (list-within t lt) (ltb (entry T t) (segs T)) refl),
        sum-mul (distinct T (steps T)) (steps T) (touching T (λ t i. 1)),
      )
    where
      each : (t : ℕ) → length (recency T t) ≤ distinct T (steps T) → (b : Bool) → ltb (entry T t) (segs T) ≡ b
          → touching T (λ t i. looked_in (recency T t) (distance T t i)) t ≤ distinct T (steps T) * touching T (λ t i. 1) t
      each t le true e =
          let on = ltb-true (entry T t) (segs T) e in
          rw (touching-on T (λ t i. looked_in (recency T t) (distance T t i)) t on, touching-on T (λ t i. 1) t on)
          (omega (arith, looked-within (entry T t) (recency T t)))
      each t le false e =
          rw (touching-off T (λ t i. looked_in (recency T t) (distance T t i)) t (ltb-false (entry T t) (segs T) e)) (omega arith)

  -- where the whole list fits, a miss is a first touch
  miss-first-touch : (k t i : ℕ) → length (recency T t) ≤ k → miss_beyond k (distance T t i) ≡ first_touch t i
  unfolding distance
  miss-first-touch k t i le = rw (miss-has k i (recency T t), take_all k (recency T t) le, has-recency t i)

  -- with a frame for each distinct segment, each of these misses once
  pub misses-distinct : (k : ℕ) → distinct T (steps T) ≤ k → lru_misses T k ≡ distinct T (steps T)
  unfolding lru_misses
  misses-distinct k le =
      over_touches-eq T (λ t i. miss_beyond k (distance T t i)) first_touch
      (λ t i lt l m. miss-first-touch k t i (omega (arith, list-within t lt)))
      ∙ sym (distinct-firsts (steps T))
