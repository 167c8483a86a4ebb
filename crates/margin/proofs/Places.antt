-- Looking for the n-th reference, step by step, in every run with the entries and the number of segments at hand.
use Prim.Native.Nat.{ℕ, suc, pred, ◌+◌, ◌-◌, ◌≤◌, ◌<◌}
use mathlib.Core.Path.{◌≡◌, refl, sym, ap, ◌∙◌}
use mathlib.Core.List.{List}
use native.Mathlib.Numerals.{add-one}
use native.Mathlib.Omega.{arith}
use borrow.Author.Tests.{lt-ltb, le-ltb}
use lib.ListN.{length, get_or}
use Rattle.std.specs.Prelude.{None, Some}
use Rattle.model.specs.Traces.{Trace, segs, steps, entry, refs_by, ref_place, place_of}
use Rattle.model.proofs.References.{refs_next, refs_rise, refs_none, search_idle, search_found, search_on, place_is}
use Rattle.model.proofs.Touches.{entry-ref}
use Rattle.margin.specs.inner.Times.{PlaceFound}

-- after t steps of a run the n-th reference is the first of `left` from place t on
pub record Ahead (T : Trace) (n left t : ℕ) : Type 0 where
  pub passed : refs_by T t + left ≡ n
  pub same : ref_place T (steps T - t) t left ≡ place_of T n

-- and so in every run with these entries and k segments
pub record Looking (k : ℕ) (refs : List ℕ) (n left t : ℕ) : Type 0 where
  pub some_left : 1 ≤ left
  pub ahead : (T : Trace) → T.entries ≡ refs → segs T ≡ k → Ahead T n left t

module _ (T : Trace) (n left t : ℕ) (l : Ahead T n left t) (some : 1 ≤ left) (lt : t < steps T) where
  -- the search from place t on
  from_here : ref_place T (suc (steps T - suc t)) t left ≡ place_of T n
  from_here = let e : suc (steps T - suc t) ≡ steps T - t = omega arith in rw e l.same

  -- one step more, without a touch
  ahead-idle : segs T ≤ entry T t → Ahead T n left (suc t)
  ahead-idle idle =
      record {
        passed = omega (arith, l.passed, rw (le-ltb (entry T t) (segs T) idle) at (refs_next T t));
        same = sym (search_idle T (steps T - suc t) t left idle) ∙ from_here;
      }

  module _ (touch : entry T t < segs T) where
    -- that of an earlier reference
    ahead-next : (left ≡ 1 → ⊥) → Ahead T n (left - 1) (suc t)
    ahead-next other =
        let p : left - 1 ≡ pred left = omega arith in
        record {
          passed = omega (arith, l.passed, rw (lt-ltb (entry T t) (segs T) touch) at (refs_next T t));
          same = rw p (sym (search_on T (steps T - suc t) t left touch (omega arith)) ∙ from_here);
        }

    -- that of the reference
    ahead-found : left ≡ 1 → PlaceFound T n (Some t)
    ahead-found one =
        let more : suc t + (steps T - suc t) ≡ steps T = omega arith in
        let by = rw (lt-ltb (entry T t) (segs T) touch) at (refs_next T t) in (
          lt,
          omega (arith, l.passed, by, rw more at (refs_rise T (suc t) (steps T - suc t))),
          sym (search_found T (steps T - suc t) t left touch (omega arith)) ∙ from_here,
        )

-- the place found has a touch
pub found-touch : (T : Trace) (n p : ℕ) → 1 ≤ n → PlaceFound T n (Some p) → get_or T.entries p 0 < segs T
found-touch T n p pos f = rw (← entry-ref T p f.0, f.2) (place_is T n pos f.1).touches

module _ (k : ℕ) (refs : List ℕ) (n : ℕ) where
  pub look-start : 1 ≤ n → Looking k refs n n 0
  look-start pos =
      record {
        some_left = pos;
        ahead = λ T is many.
            let all : steps T - 0 ≡ steps T = omega arith in
            record { passed = omega (arith, refs_none T); same = rw all refl };
      }

  module _ (left t : ℕ) (l : Looking k refs n left t) where
    module _ (lt : t < length refs) where
      -- the step is one of a run, with the entry at hand
      in-run : (T : Trace) → T.entries ≡ refs → t < steps T
      in-run T is = rw is lt

      entry-is : (T : Trace) → T.entries ≡ refs → entry T t ≡ get_or refs t 0
      entry-is T is = entry-ref T t (in-run T is) ∙ ap (λ (xs : List ℕ). get_or xs t 0) is

      -- one step more, without a touch
      pub look-idle : k ≤ get_or refs t 0 → Looking k refs n left (t + 1)
      look-idle idle =
          record {
            some_left = l.some_left;
            ahead = λ T is many.
                rw (add-one t) (ahead-idle T n left t (l.ahead T is many) l.some_left (in-run T is) (rw (entry-is T is, many) idle));
          }

      module _ (touch : get_or refs t 0 < k) where
        -- that of an earlier reference
        pub look-next : (left ≡ 1 → ⊥) → Looking k refs n (left - 1) (t + 1)
        look-next other =
            record {
              some_left = omega (arith, l.some_left, other);
              ahead = λ T is many.
                  rw (add-one t)
                  (ahead-next T n left t (l.ahead T is many) l.some_left (in-run T is) (rw (entry-is T is, many) touch) other);
            }

        -- that of the reference
        pub look-found : left ≡ 1 → (T : Trace) → T.entries ≡ refs → segs T ≡ k → PlaceFound T n (Some t)
        look-found one T is many =
            ahead-found T n left t (l.ahead T is many) l.some_left (in-run T is) (rw (entry-is T is, many) touch) one

    -- no step is left
    pub look-end : length refs ≡ t → (T : Trace) → T.entries ≡ refs → segs T ≡ k → PlaceFound T n None
    look-end end T is many =
        let e : t ≡ steps T = rw is (sym end) in
        let by : refs_by T t + left ≡ n = (l.ahead T is many).passed in
        rw (← e) (omega (arith, by, l.some_left))
