-- The misses by a running sum from the most frames down: its start, one frame less, and its end.
use Prim.Native.Nat.{ℕ, zero, suc, ◌+◌, ◌-◌, ◌*◌, ◌≤◌, ◌<◌}
use mathlib.Core.Path.{◌≡◌, refl, sym, ◌∙◌}
use mathlib.Core.Bool.{Bool, true, false, cond}
use mathlib.Core.List.{List, []}
use mathlib.Core.Option.{Option, none, some}
use native.Mathlib.Omega.{arith}
use lib.Dec.{eqb, ltb}
use lib.ListN.{length, get_or, set, length-set}
use borrow.Author.Tests.{lt-ltb, le-ltb, ltb-true, ltb-false, eqb-true, eqb-false}
use Rattle.model.specs.Sheets.{most_segs, run_of}
use Rattle.model.specs.Traces.{Trace, segs, steps, entry, touching}
use Rattle.model.proofs.LastTouches.{listed-none}
use Rattle.model.proofs.Sums.{sum-eq, sum-add}
use Rattle.replacement.specs.Recency.{distance, miss_beyond, lru_misses, entries_looked, distinct}
use Rattle.replacement.proofs.Bounds.{misses-distinct, distinct-within, looked-bound}
use Rattle.replacement.proofs.Same.{curve-same, looked-same}
use Rattle.replacement.proofs.Touches.{cond-within, touches-within}
use Rattle.lru_curve.specs.inner.Left.{EveryRun, touch_run, ByDistances}
use Rattle.lru_curve.specs.declared.distance_pass.Counts.{Counts}
use Rattle.lru_curve.specs.inner.Passes.{is_at, touches_at, Counted}
use Rattle.lru_curve.proofs.Passes.{at-within}
use Rattle.lru_curve.proofs.Writing.{from_back, back_start, back-next}

-- a miss with k frames is a miss with one more, or a touch at distance k + 1
miss-one-less : (k : ℕ) (o : Option ℕ) → miss_beyond k o ≡ miss_beyond (suc k) o + is_at (suc k) o
miss-one-less k none = refl
miss-one-less k (some p) = go (eqb p (suc k)) refl (ltb k p) refl
  where
    go : (b : Bool) → eqb p (suc k) ≡ b → (c : Bool) → ltb k p ≡ c
        → ◌≡◌ {A = ℕ} (cond (ltb k p) 1 0) (cond (ltb (suc k) p) 1 0 + cond (eqb p (suc k)) 1 0)
    go true e c h =
        let same = eqb-true p (suc k) e in
        rw (e, lt-ltb k p (omega arith), le-ltb (suc k) p (omega arith))
    go false e true h =
        let other = eqb-false p (suc k) e in
        rw (e, h, lt-ltb (suc k) p (omega (arith, ltb-true k p h)))
    go false e false h = rw (e, h, le-ltb (suc k) p (omega (arith, ltb-false k p h)))

module _ (T : Trace) where
  -- the running sum: with all frames the distinct segments, and with one frame less the touches at that distance more
  pub misses-most : ((i : ℕ) → T.start i ≡ false) → distinct T (steps T) ≡ lru_misses T (segs T)
  misses-most fresh = sym (misses-distinct T fresh (segs T) (distinct-within T (steps T)))

  pub misses-less : (k : ℕ) → lru_misses T (suc k) + touches_at T (steps T) (suc k) ≡ lru_misses T k
  unfolding lru_misses touches_at touching
  misses-less k =
      sym (sum-eq (steps T) (touching T (λ t i. miss_beyond k (distance T t i)))
      (λ t. touching T (λ t i. miss_beyond (suc k) (distance T t i)) t + touching T (λ t i. is_at (suc k) (distance T t i)) t)
      (λ t lt. each t (ltb (entry T t) (segs T)) refl)
      ∙ sum-add (steps T) (touching T (λ t i. miss_beyond (suc k) (distance T t i))) (touching T (λ t i. is_at (suc k) (distance T t i))))
    where
      each : (t : ℕ) (b : Bool) → ltb (entry T t) (segs T) ≡ b
          → touching T (λ t i. miss_beyond k (distance T t i)) t
          ≡ touching T (λ t i. miss_beyond (suc k) (distance T t i)) t + touching T (λ t i. is_at (suc k) (distance T t i)) t
      each t true e = rw e (miss-one-less k (distance T t (entry T t)))
      each t false e = rw e

  pub misses_within : (k : ℕ) → lru_misses T k ≤ steps T
  unfolding lru_misses
  misses_within k = omega (arith, touches-within T (λ t i. miss_beyond k (distance T t i)) 1 (steps T) (λ t i. one (distance T t i)))
    where
      one : (o : Option ℕ) → miss_beyond k o ≤ 1
      one none = omega arith
      one (some p) = cond-within (ltb k p) 1 0 1 (omega arith) (omega arith)

-- the running sum from the most frames down, k frames being left
pub record Summed (sizes refs place place' : List ℕ) (misses k : ℕ) : Type 0 where
  pub within : k ≤ length sizes
  pub same_length : length place' ≡ length place
  pub place_is : place' ≡ from_back (length sizes) (λ j. lru_misses (touch_run sizes refs) (suc j)) place k
  pub misses_is : misses ≡ lru_misses (touch_run sizes refs) k

module _ (sizes refs place : List ℕ) (room : length sizes ≤ length place) (c : Counts) (counted : Counted (touch_run sizes refs) c) where
  abbrev T : Trace
  T = touch_run sizes refs

  pub summed_start : Summed sizes refs place place c.first (length sizes)
  summed_start =
      record {
        within = omega arith;
        same_length = refl;
        place_is = back_start (length sizes) (λ j. lru_misses T (suc j)) place room;
        misses_is = counted.first_is ∙ misses-most T listed-none;
      }

  module _ (few : length sizes ≤ most_segs) (place' : List ℕ) (misses k : ℕ) (v : Summed sizes refs place place' misses k) where
    pub summed_room : 0 < k → misses + get_or c.at (k - 1) 0 ≤ 2 * length refs
    summed_room more =
        omega (
          arith,
          v.misses_is,
          misses_within T k,
          counted.at_are (k - 1) (omega (arith, v.within)),
          at-within T (steps T) (suc (k - 1)),
        )

    pub summed_next : 0 < k → Summed sizes refs place (set place' (k - 1) misses) (misses + get_or c.at (k - 1) 0) (k - 1)
    summed_next more = go k refl
      where
        go : (j : ℕ) → k ≡ j → Summed sizes refs place (set place' (k - 1) misses) (misses + get_or c.at (k - 1) 0) (k - 1)
        go zero z = absurd (omega arith)
        go (suc j) z =
            let less : k - 1 ≡ j = omega arith in
            rw less
            record {
              within = omega (arith, v.within);
              same_length = length-set place' j misses ∙ v.same_length;
              place_is =
                  rw (v.place_is, v.misses_is, z)
                  (back-next (length sizes) (λ j. lru_misses T (suc j)) place room j (omega (arith, v.within)));
              misses_is = rw (v.misses_is, z, counted.at_are j (omega (arith, v.within))) (misses-less T j);
            }

    pub summed_end : k ≤ 0 → EveryRun sizes refs (λ U. ByDistances U place place' c.looked)
    summed_end done kind a =
        let none_left : k ≡ 0 = omega arith in
        let looked : c.looked ≡ entries_looked U = counted.looked_is ∙ looked-same T U refl refl in
        record {
          place_is = rw (v.place_is, none_left, ← curve-same T U refl refl);
          looked_is = looked;
          bounded = rw looked (looked-bound U listed-none);
        }
      where
        U : Trace
        U = run_of kind a sizes [] refs
