-- The simulation of one memory of k frames: its start, a hit, a miss, an idle step, and its end.
use Prim.Native.Nat.{ℕ, zero, suc, ◌+◌, ◌-◌, ◌≤◌, ◌<◌, min}
use mathlib.Core.Path.{◌≡◌, refl, sym, ap, ◌∙◌}
use mathlib.Core.Bool.{Bool, true, false, cond}
use mathlib.Core.List.{List, ◌∷◌}
use native.Mathlib.Numerals.{add-one}
use native.Mathlib.Omega.{arith}
use lib.Dec.{ltb}
use lib.ListN.{length, get_or, take, drop, set, length-set, replicate, length-replicate}
use lib.Seq.{length-take-le, take_at, take_all, take-take, take-set-le, get_or-set_same, get_or-take}
use borrow.Author.Tests.{lt-ltb, le-ltb, ltb-true, ltb-false}
use Rattle.model.specs.Sheets.{most_segs}
use Rattle.model.specs.Sums.{sum}
use Rattle.model.specs.Traces.{Trace, segs, steps, entry, touching}
use Rattle.model.proofs.Lists.{get_or-any}
use Rattle.replacement.specs.Memory.{has, lru_simulated}
use Rattle.replacement.proofs.Frames.{simulated-ordered}
use Rattle.replacement.proofs.Ordered.{reordered, ordered}
use Rattle.replacement.proofs.Touches.{cond-within, adds_on, adds-off, touches-within}
use Rattle.lru_curve.specs.inner.Left.{touch_run}
use Rattle.lru_curve.specs.inner.Entries.{moved}
use Rattle.lru_curve.specs.inner.Used.{frame_in}
use Rattle.lru_curve.proofs.Fronts.{length_moved, front-found}
use Rattle.lru_curve.proofs.Indexes.{has-index, entry-index}

-- the misses of the first n steps with k frames
abbrev missed_by : Trace → ℕ → ℕ → ℕ
missed_by T k n = sum n (touching T (λ t i. cond (has i (ordered T k t)) 0 1))

-- the memory, in the order of last touches, after a touch, and after an idle step
ordered-on : (T : Trace) (k t : ℕ) → entry T t < segs T → ordered T k (suc t) ≡ reordered k (entry T t) (ordered T k t)
unfolding ordered
ordered-on T k t on = rw (lt-ltb (entry T t) (segs T) on)

ordered-off : (T : Trace) (k t : ℕ) → segs T ≤ entry T t → ordered T k (suc t) ≡ ordered T k t
unfolding ordered
ordered-off T k t off = rw (le-ltb (entry T t) (segs T) off)

-- the frames in use after a miss: one more where one is free
pub used-within : (n k : ℕ) → 1 ≤ k → n ≤ k → (1 ≤ min k (n + 1)) × (min k (n + 1) ≤ k)
used-within n k some-frames le = (omega arith, omega arith)

-- a miss: x in the last of the frames in use, which is then moved to the front
loaded : (l : List ℕ) (n k x m : ℕ) → 1 ≤ k → n ≤ k → suc m ≡ min k (n + 1) → m < length l → n ≤ length l
    → take (suc m) (moved m x (set l m x)) ≡ take k (x ∷ take n l)
loaded l n zero x m some-frames le used room whole = absurd (omega arith)
loaded l n (suc k) x m some-frames le used room whole =
    ap (λ (r : List ℕ). x ∷ r)
    (take_at (take m (set l m x)) (drop (suc m) (set l m x)) m (length-take-le m (set l m x) (omega (arith, length-set l m x)))
    ∙ (take-set-le m l m x (omega arith) ∙ go (ltb n (suc k)) refl))
  where
    go : (b : Bool) → ltb n (suc k) ≡ b → take m l ≡ take k (take n l)
    go true e =
        let same : m ≡ n = omega (arith, ltb-true n (suc k) e) in
        rw same (sym (take_all k (take n l) (omega (arith, length-take-le n l whole, ltb-true n (suc k) e))))
    go false e =
        let full : n ≡ suc k = omega (arith, ltb-false n (suc k) e) in
        let same : m ≡ k = omega (arith, ltb-false n (suc k) e) in
        rw (same, full) (sym (take-take k (suc k) l (omega arith)))

-- after t steps of a run of these sizes and entries
pub record Simulated (sizes refs : List ℕ) (k : ℕ) (list : List ℕ) (n misses t : ℕ) : Type 0 where
  pub within : t ≤ length refs
  pub list_whole : length list ≡ most_segs
  pub few : n ≤ k
  pub list_is : take n list ≡ ordered (touch_run sizes refs) k t
  pub misses_is : misses ≡ missed_by (touch_run sizes refs) k t

module _ (sizes refs : List ℕ) (k : ℕ) (some-frames : 1 ≤ k) (frames-within : k ≤ most_segs) where
  abbrev T : Trace
  T = touch_run sizes refs

  pub simulated_start : Simulated sizes refs k (replicate most_segs 0) 0 0 0
  unfolding ordered sum
  simulated_start =
      record {
        within = omega arith;
        list_whole = length-replicate {A = ℕ} most_segs 0;
        few = omega arith;
        list_is = refl;
        misses_is = refl;
      }

  module _ (list : List ℕ) (n misses t : ℕ) (v : Simulated sizes refs k list n misses t) where
    pub missed_within : misses ≤ t
    missed_within =
        omega (
          arith,
          v.misses_is,
          touches-within T (λ t i. cond (has i (ordered T k t)) 0 1) 1 t
              (λ t i. cond-within (has i (ordered T k t)) 0 1 1 (omega arith) (omega arith)),
        )

    pub simulated_end : length refs ≤ t → misses ≡ lru_simulated T k
    simulated_end done =
        let all : t ≡ steps T = omega (arith, v.within) in
        v.misses_is ∙ (ap (λ (n : ℕ). missed_by T k n) all ∙ sym (simulated-ordered T k))

    module _ (more : t < length refs) where
      is_entry : entry T t ≡ get_or refs t 0
      is_entry = get_or-any refs t (length sizes) 0 more

      -- a step that touches nothing
      pub simulated_idle : length sizes ≤ get_or refs t 0 → Simulated sizes refs k list n misses (t + 1)
      simulated_idle idle =
          let off : segs T ≤ entry T t = rw is_entry idle in
          rw (add-one t)
          record {
            within = more;
            list_whole = v.list_whole;
            few = v.few;
            list_is = v.list_is ∙ sym (ordered-off T k t off);
            misses_is = v.misses_is ∙ sym (adds-off T (λ t i. cond (has i (ordered T k t)) 0 1) t off);
          }

      -- a touch of segment x, which frame p has
      module _ (x : ℕ) (is_x : get_or refs t 0 ≡ x) (segment : x < length sizes) (p : ℕ) (index : p ≡ frame_in x (take n list)) where
        on : entry T t < segs T
        on = rw (is_entry, is_x) segment

        size : length (take n list) ≡ n
        size = length-take-le n list (omega (arith, v.list_whole, v.few))

        is_in : has (entry T t) (ordered T k t) ≡ ltb p n
        is_in = rw (is_entry, is_x, ← v.list_is, has-index x (take n list), ← index, size)

        next : ordered T k (suc t) ≡ reordered k x (take n list)
        next = ordered-on T k t on ∙ rw (is_entry, is_x, v.list_is)

        missed_next : missed_by T k (suc t) ≡ misses + cond (ltb p n) 0 1
        missed_next = adds_on T (λ t i. cond (has i (ordered T k t)) 0 1) t on ∙ rw (is_in, v.misses_is)

        has_x : has x (take n list) ≡ ltb p n
        has_x = rw (has-index x (take n list), ← index, size)

        -- a hit
        pub simulated_hit : (list' : List ℕ) → p < n → list' ≡ moved p (get_or list p 0) list
            → Simulated sizes refs k list' n misses (t + 1)
        unfolding reordered
        simulated_hit list' lt list-moved =
            rw (add-one t, list-moved, here)
            record {
              within = more;
              list_whole = length_moved p x list (omega (arith, v.list_whole, v.few)) ∙ v.list_whole;
              few = v.few;
              list_is =
                  front-found list n x (omega (arith, v.list_whole, v.few)) p index lt
                  ∙ sym (next ∙ rw (has_x, lt-ltb p n lt));
              misses_is = sym (missed_next ∙ rw (lt-ltb p n lt) (omega arith));
            }
          where
            here : get_or list p 0 ≡ x
            here = sym (get_or-take n list p 0 lt) ∙ (rw index (entry-index x (take n list) (omega (arith, size))))

        -- a miss, with m frames in use after it
        pub simulated_miss : (m : ℕ) (list' : List ℕ) → n ≤ p → m ≡ min k (n + 1)
            → list' ≡ moved (m - 1) (get_or (set list (m - 1) x) (m - 1) 0) (set list (m - 1) x)
            → Simulated sizes refs k list' m (misses + 1) (t + 1)
        unfolding reordered
        simulated_miss m list' le used list-moved = go m refl
          where
            go : (j : ℕ) → m ≡ j → Simulated sizes refs k list' m (misses + 1) (t + 1)
            go zero z = absurd (omega (arith, (used-within n k some-frames v.few).0))
            go (suc j) z =
                rw (add-one t, add-one misses, z, is)
                record {
                  within = more;
                  list_whole =
                      length_moved j x (set list j x) (omega (arith, length-set list j x, room)) ∙ (length-set list j x ∙ v.list_whole);
                  few = omega (arith, (used-within n k some-frames v.few).1);
                  list_is =
                      loaded list n k x j some-frames v.few (sym z ∙ used) room (omega (arith, v.list_whole, v.few))
                      ∙ sym (next ∙ rw (has_x, le-ltb p n le));
                  misses_is = sym (missed_next ∙ rw (le-ltb p n le) (omega arith));
                }
              where
                room : j < length list
                room = omega (arith, (used-within n k some-frames v.few).1, v.list_whole)

                less : m - 1 ≡ j
                less = omega arith

                is : list' ≡ moved j x (set list j x)
                is = list-moved ∙ rw (less, get_or-set_same list j x 0 room)
