-- Unreferenced times by value: of a warm segment, and after steps that do not touch the segment.
use Prim.Native.Nat.{ℕ, suc, ◌+◌, ◌-◌, ◌≤◌, ◌<◌}
use mathlib.Core.Path.{◌≡◌, refl, sym, ap, ◌∙◌}
use mathlib.Core.Bool.{Bool, true, false, cond, ◌||◌}
use mathlib.Core.List.{List, [], ◌∷◌}
use mathlib.Core.Option.{Option, none, some}
use native.Mathlib.Omega.{arith}
use borrow.Author.Tests.{eq-eqb, ne_eqb}
use lib.Dec.{eqb}
use lib.ListN.{length, get_or}
use Rattle.std.specs.Prelude.{Option as Given, None, Some}
use Rattle.std.specs.Bool.{then_some}
use Rattle.std.specs.List.{list_any}
use Rattle.model.specs.Sheets.{listed}
use Rattle.model.specs.Traces.{Trace, segs, entry, touched, later, unreferenced}
use Rattle.model.proofs.Touches.{entry-ref, touched-entry, unreferenced-none, unreferenced-touched, unreferenced-later}
use Rattle.margin.specs.inner.Times.{time_of}

-- a list contains a segment exactly where it is listed
pub listed-any : (warm : List ℕ) (i : ℕ) → list_any (λ x. eqb x i) warm ≡ listed warm i
unfolding listed
listed-any [] i = refl
listed-any (x ∷ warm) i = rw (listed-any warm i) (go (eqb x i))
  where
    go : (b : Bool) → (b || listed warm i) ≡ cond b true (listed warm i)
    go true = refl
    go false = refl

-- and n steps later, none of which touches the segment
abbrev pub later_by : ℕ → Given ℕ → Given ℕ
later_by n None = None
later_by n (Some k) = Some (k + n)

-- no step later, and one step and then n more
later-start : (o : Option ℕ) → time_of o ≡ later_by 0 (time_of o)
later-start none = refl
later-start (some k) = let e : k + 0 ≡ k = omega arith in rw e refl

later-on : (n : ℕ) (o : Option ℕ) → later_by n (time_of (later o)) ≡ later_by (suc n) (time_of o)
unfolding later
later-on n none = refl
later-on n (some k) = let e : suc k + n ≡ k + suc n = omega arith in rw e refl

-- from a touch on
later-zero : (n : ℕ) → Some n ≡ later_by n (time_of (some 0))
later-zero n = let e : 0 + n ≡ n = omega arith in ap (λ k. Some k) (sym e)

-- none of the steps after the first n, up to t, touches segment i: its time after t steps is that after n, and t - n more
pub record Since (i : ℕ) (refs : List ℕ) (t n : ℕ) : Type 0 where
  pub within : n ≤ t
  pub same : (T : Trace) → T.entries ≡ refs → i < segs T → time_of (unreferenced T t i) ≡ later_by (t - n) (time_of (unreferenced T n i))

module _ (i : ℕ) (refs : List ℕ) (t : ℕ) where
  pub since_start : Since i refs t t
  since_start =
      record {
        within = omega arith;
        same = λ T is lt. let e : t - t ≡ 0 = omega arith in rw e (later-start (unreferenced T t i));
      }

  -- the step before, which is one of the run's
  module _ (n m : ℕ) (one : n ≡ suc m) (lt : m < length refs) (s : Since i refs t n) where
    entry_is : (T : Trace) → T.entries ≡ refs → entry T m ≡ get_or refs m 0
    entry_is T is = entry-ref T m (rw is lt) ∙ ap (λ (l : List ℕ). get_or l m 0) is

    -- it does not touch the segment
    pub since_before : (get_or refs m 0 ≡ i → ⊥) → Since i refs t m
    since_before f =
        record {
          within = omega (arith, s.within);
          same = λ T is seg.
              let off = touched-entry T m i seg ∙ ap (λ x. eqb x i) (entry_is T is) ∙ ne_eqb (get_or refs m 0) i f in
              let more : suc (t - n) ≡ t - m = omega (arith, s.within) in
              rw (← more, ← (later-on (t - n) (unreferenced T m i)), ← (unreferenced-later T m i off), ← one) (s.same T is seg);
        }

    -- it touches the segment
    pub since_found : get_or refs m 0 ≡ i → (T : Trace) → T.entries ≡ refs → i < segs T
        → Some (t - n) ≡ time_of (unreferenced T t i)
    since_found f T is seg =
        let met : touched T m i ≡ true = touched-entry T m i seg ∙ ap (λ x. eqb x i) (entry_is T is) ∙ eq-eqb (get_or refs m 0) i f in
        rw (s.same T is seg, one, unreferenced-touched T m i met) (later-zero (t - suc m))

  -- no step touches it
  pub since_none : Since i refs t 0 → (warm : Bool) (T : Trace) → T.entries ≡ refs → i < segs T → T.start i ≡ warm
      → then_some warm t ≡ time_of (unreferenced T t i)
  since_none s warm T is seg start =
      let all : t - 0 ≡ t = omega arith in
      rw (s.same T is seg, all, unreferenced-none T i, start) (go warm)
    where
      go : (b : Bool) → then_some b t ≡ later_by t (time_of (cond b (some 0) none))
      go true = later-zero t
      go false = refl
