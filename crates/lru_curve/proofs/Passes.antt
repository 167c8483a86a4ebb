-- The pass by stack distances: its start, a touch that is a reuse, a first touch, an idle step, and its end.
use Prim.Native.Nat.{ℕ, suc, ◌+◌, ◌*◌, ◌≤◌, ◌<◌}
use mathlib.Core.Path.{◌≡◌, refl, sym, ap, ◌∙◌}
use mathlib.Core.Bool.{Bool, true, false, cond}
use mathlib.Core.List.{List}
use mathlib.Core.Option.{Option, none, some}
use native.Mathlib.Numerals.{add-one}
use native.Mathlib.Omega.{arith}
use lib.Dec.{eqb, ltb}
use lib.ListN.{length, get_or, take, set, length-set, replicate, length-replicate, get_or-replicate}
use lib.Seq.{length-take-le, get_or-set_same, get_or-set_other}
use borrow.Author.Tests.{lt-ltb, le-ltb, eqb-true, eqb-false, eq-eqb, ne_eqb}
use Rattle.model.specs.Sheets.{most_segs, most_steps}
use Rattle.model.specs.Sums.{sum}
use Rattle.model.specs.Traces.{Trace, segs, steps, entry, touching}
use Rattle.model.proofs.Bounds.{product-within}
use Rattle.model.proofs.LastTouches.{listed-none}
use Rattle.model.proofs.Lists.{get_or-any}
use Rattle.replacement.specs.Orders.{to_front}
use Rattle.replacement.specs.Recency.{recency, distance, looked_in, entries_looked}
use Rattle.replacement.proofs.Bounds.{recency-on, recency-off, length-recency, recency-within}
use Rattle.replacement.proofs.Orders.{looked-within}
use Rattle.replacement.proofs.Touches.{cond-within, adds_on, adds-off, touches-within}
use Rattle.lru_curve.specs.inner.Left.{touch_run}
use Rattle.lru_curve.specs.declared.recency_list.Walk.{Walk}
use Rattle.lru_curve.specs.inner.Entries.{walk_of, moved}
use Rattle.lru_curve.specs.inner.Used.{frame_in}
use Rattle.lru_curve.specs.inner.Passes.{most_entries, is_at, touches_at, Counted}
use Rattle.lru_curve.proofs.Fronts.{length_moved, front-found, front-first}
use Rattle.lru_curve.proofs.Indexes.{index-within, place-index, before-is}

-- the entries looked at in the first n steps
abbrev pub looked_by : Trace → ℕ → ℕ
looked_by T n = sum n (touching T (λ t i. looked_in (recency T t) (distance T t i)))

-- the touches at one distance are at most as many as the steps
pub at-within : (T : Trace) (n q : ℕ) → touches_at T n q ≤ n
unfolding touches_at
at-within T n q = omega (arith, touches-within T (λ t i. is_at q (distance T t i)) 1 n (λ t i. one (distance T t i)))
  where
    one : (o : Option ℕ) → is_at q o ≤ 1
    one none = omega arith
    one (some p) = cond-within (eqb p q) 1 0 1 (omega arith) (omega arith)

-- after t steps of a run of these sizes and entries
pub record Passed (sizes refs list : List ℕ) (n : ℕ) (at : List ℕ) (looked t : ℕ) : Type 0 where
  pub within : t ≤ length refs
  pub list_whole : length list ≡ most_entries
  pub at_whole : length at ≡ most_segs
  pub list_is : take n list ≡ recency (touch_run sizes refs) t
  pub few : n ≤ length sizes
  pub at_are : (p : ℕ) → p < most_segs → get_or at p 0 ≡ touches_at (touch_run sizes refs) t (suc p)
  pub looked_is : looked ≡ looked_by (touch_run sizes refs) t

module _ (sizes refs : List ℕ) where
  abbrev T : Trace
  T = touch_run sizes refs

  pub passed_start : Passed sizes refs (replicate most_entries 0) 0 (replicate most_segs 0) 0 0
  unfolding recency touches_at sum
  passed_start =
      record {
        within = omega arith;
        list_whole = length-replicate {A = ℕ} most_entries 0;
        at_whole = length-replicate {A = ℕ} most_segs 0;
        list_is = refl;
        few = omega arith;
        at_are = λ p lt. get_or-replicate {A = ℕ} most_segs p 0 0 lt;
        looked_is = refl;
      }

  -- each step looks at most at as many entries as there are segments
  looked_room : (t : ℕ) → looked_by T t ≤ t * length sizes
  unfolding distance
  looked_room t =
      touches-within T (λ t i. looked_in (recency T t) (distance T t i)) (length sizes) t
      (λ t i. omega (arith, looked-within i (recency T t), recency-within T listed-none t))

  module _ (list : List ℕ) (n : ℕ) (at : List ℕ) (looked t : ℕ) (v : Passed sizes refs list n at looked t)
      (segments : length sizes ≤ most_segs) (short : length refs ≤ most_steps) where
    pub at_room : (p : ℕ) → p < most_segs → get_or at p 0 ≤ most_steps
    at_room p lt = omega (arith, v.at_are p lt, at-within T t (suc p), v.within)

    pub looked_most : looked ≤ most_steps * most_segs
    looked_most =
        omega (arith, v.looked_is, looked_room t, product-within t (length sizes) most_steps most_segs (omega (arith, v.within)) segments)

    size : length (recency T t) ≡ n
    size = rw v.list_is at (length-take-le n list (omega (arith, v.list_whole, v.few)))

    -- the end
    pub passed_end : length refs ≤ t → Counted T (record { at = at; first = n; looked = looked })
    unfolding entries_looked
    passed_end done =
        let all : t ≡ steps T = omega (arith, v.within) in
        record {
          at_are = λ p lt. v.at_are p lt ∙ rw all;
          first_is = sym size ∙ (length-recency T listed-none t ∙ rw all);
          looked_is = v.looked_is ∙ rw all;
        }

    module _ (more : t < length refs) where
      is_entry : entry T t ≡ get_or refs t 0
      is_entry = get_or-any refs t (length sizes) 0 more

      -- a step that touches nothing
      pub passed_idle : length sizes ≤ get_or refs t 0 → Passed sizes refs list n at looked (t + 1)
      unfolding touches_at
      passed_idle idle =
          let off : segs T ≤ entry T t = rw is_entry idle in
          rw (add-one t)
          record {
            within = more;
            list_whole = v.list_whole;
            at_whole = v.at_whole;
            list_is = v.list_is ∙ sym (recency-off T t off);
            few = v.few;
            at_are = λ p lt. v.at_are p lt ∙ sym (adds-off T (λ t i. is_at (suc p) (distance T t i)) t off);
            looked_is = v.looked_is ∙ sym (adds-off T (λ t i. looked_in (recency T t) (distance T t i)) t off);
          }

      -- a touch of segment x, up to which the list was walked
      module _ (x : ℕ) (is_x : get_or refs t 0 ≡ x) (segment : x < length sizes) (w : Walk) (list' : List ℕ)
          (walk_is : w ≡ walk_of x (take n list)) (list-moved : list' ≡ moved w.before x list) where
        abbrev p : ℕ
        p = w.before

        index : p ≡ frame_in x (take n list)
        index = before-is x (take n list) walk_is

        on : entry T t < segs T
        on = rw (is_entry, is_x) segment

        next : recency T (suc t) ≡ to_front x (take n list)
        next = recency-on T t on ∙ rw (is_entry, is_x, v.list_is)

        whole : length list' ≡ most_entries
        whole =
            let front = length-take-le n list (omega (arith, v.list_whole, v.few)) in
            rw list-moved
            (length_moved p x list (omega (arith, index, index-within x (take n list), front, v.list_whole, v.few)) ∙ v.list_whole)

        place : distance T t (entry T t) ≡ cond (ltb p n) (some (suc p)) none
        unfolding distance
        place = rw (is_entry, is_x, index, v.list_is, ← size) (place-index x (recency T t))

        at_next : (q : ℕ) → touches_at T (suc t) q ≡ touches_at T t q + is_at q (cond (ltb p n) (some (suc p)) none)
        unfolding touches_at
        at_next q = adds_on T (λ t i. is_at q (distance T t i)) t on ∙ rw place

        -- what the walk looked at
        looked_next : looked + w.looked ≡ looked_by T (suc t)
        unfolding distance
        looked_next =
            let walked = ap (λ (u : Walk). u.looked) walk_is in
            sym (adds_on T (λ t i. looked_in (recency T t) (distance T t i)) t on ∙ rw (walked, v.list_is, is_entry, is_x, v.looked_is))

        pub passed_reuse : p < n → Passed sizes refs list' n (set at p (get_or at p 0 + 1)) (looked + w.looked) (t + 1)
        passed_reuse lt =
            rw (add-one t)
            record {
              within = more;
              list_whole = whole;
              at_whole = length-set at p (get_or at p 0 + 1) ∙ v.at_whole;
              list_is = rw (list-moved) (front-found list n x (omega (arith, v.list_whole, v.few)) p index lt ∙ sym next);
              few = v.few;
              at_are = λ q lq. go q lq (eqb p q) refl;
              looked_is = looked_next;
            }
          where
            go : (q : ℕ) → q < most_segs → (b : Bool) → eqb p q ≡ b → get_or (set at p (get_or at p 0 + 1)) q 0
                ≡ touches_at T (suc t) (suc q)
            go q lq true e =
                rw (at_next (suc q), lt-ltb p n lt, eqb-true p q e, eq-eqb (suc q) (suc q) refl, ← v.at_are q lq)
                (get_or-set_same at q (get_or at q 0 + 1) 0 (omega (arith, v.at_whole)))
            go q lq false e =
                let other = eqb-false p q e in
                rw (at_next (suc q), lt-ltb p n lt, ne_eqb (suc p) (suc q) (λ z. other (omega arith)), ← v.at_are q lq)
                (get_or-set_other at p q (get_or at p 0 + 1) 0 (λ z. other (sym z)) ∙ omega arith)

        pub passed_first : n ≤ p → Passed sizes refs list' (n + 1) at (looked + w.looked) (t + 1)
        passed_first le =
            rw (add-one t, add-one n)
            record {
              within = more;
              list_whole = whole;
              at_whole = v.at_whole;
              list_is = front;
              few =
                  omega (
                    arith,
                    rw (← front) at (recency-within T listed-none (suc t)),
                    length-take-le (suc n) list' (omega (arith, whole, v.few)),
                  );
              at_are = λ q lq. v.at_are q lq ∙ sym (at_next (suc q) ∙ rw (le-ltb p n le) (omega arith));
              looked_is = looked_next;
            }
          where
            front : take (suc n) list' ≡ recency T (suc t)
            front = rw (list-moved) (front-first list n x (omega (arith, v.list_whole, v.few)) p index le ∙ sym next)
