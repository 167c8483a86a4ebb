-- The next touch and the next modifying touch of a segment: which is decided by the step at hand, that there is none after the last step or
-- of what is no segment, and that only the decisions of modifying touches count.
use Prim.Native.Nat.{ℕ, zero, suc, ◌+◌, ◌-◌, ◌≤◌, ◌<◌}
use mathlib.Core.Path.{◌≡◌, refl, sym, ◌∙◌}
use mathlib.Core.Bool.{Bool, true, false, cond, ◌&&◌}
use native.Mathlib.Omega.{arith}
use Rattle.model.specs.Traces.{Trace, segs, steps, entry, touched, unreferenced}
use Rattle.model.specs.Figures.{is_reuse, kept}
use Rattle.model.specs.Schedules.{next_kept}
use Rattle.model.proofs.Touches.{touched-below, touched-beyond, entry-touched}
use Rattle.model.proofs.Decisions.{next_decided-beyond, next_decided-reuse}
use Rattle.model.proofs.Optimal.{next-kept, kept-reuse}
use Rattle.stores.specs.Modtotal.{next_marked}
use Rattle.stores.specs.Stays.{modifies}

module _ (T : Trace) (h d : ℕ) where
  -- from place t on, the next touch of segment i is a kept reuse
  abbrev pub next : ℕ → ℕ → Bool
  next t i = next_kept T h d (steps T - t) t i

  pub next-step : (t i : ℕ) → t < steps T → next t i ≡ cond (touched T t i) (kept T h d t i) (next (suc t) i)
  unfolding next_kept
  next-step t i lt =
      let more : steps T - t ≡ suc (steps T - suc t) = omega arith in
      rw more

  pub next-end : (i : ℕ) → next (steps T) i ≡ false
  unfolding next_kept
  next-end i =
      let done : steps T - steps T ≡ 0 = omega arith in
      rw done

  pub next_kept-beyond : (k t i : ℕ) → segs T ≤ i → next_kept T h d k t i ≡ false
  next_kept-beyond k t i le = sym (next-kept T h d k t i) ∙ next_decided-beyond T (kept T h d) k t i le

  -- only what was touched before has a kept reuse next
  pub next_kept-reuse : (k t i : ℕ) → next_kept T h d k t i ≡ true → is_reuse (unreferenced T t i) ≡ true
  next_kept-reuse k t i e = next_decided-reuse T (kept T h d) (kept-reuse T h d) k t i (next-kept T h d k t i ∙ e)

module _ (T : Trace) (marks : ℕ → Bool) (f : ℕ → ℕ → Bool) where
  -- from place t on, the next modifying touch of segment i is decided so by f
  abbrev pub next_mark : ℕ → ℕ → Bool
  next_mark t i = next_marked T marks f (steps T - t) t i

  pub mark-step : (t i : ℕ) → t < steps T → next_mark t i ≡ cond (modifies T marks t i) (f t i) (next_mark (suc t) i)
  unfolding next_marked
  mark-step t i lt =
      let more : steps T - t ≡ suc (steps T - suc t) = omega arith in
      rw more

  pub mark-end : (i : ℕ) → next_mark (steps T) i ≡ false
  unfolding next_marked
  mark-end i =
      let done : steps T - steps T ≡ 0 = omega arith in
      rw done

  pub next_marked-beyond : (k t i : ℕ) → segs T ≤ i → next_marked T marks f k t i ≡ false
  unfolding next_marked
  next_marked-beyond zero t i le = refl
  next_marked-beyond (suc k) t i le = rw (touched-beyond T t i le) (next_marked-beyond k (suc t) i le)

-- only the decisions of touches count
pub next_marked-eq : (T : Trace) (marks : ℕ → Bool) (f g : ℕ → ℕ → Bool)
    → ((t : ℕ) → t < steps T → entry T t < segs T → f t (entry T t) ≡ g t (entry T t))
    → (k t i : ℕ) → t + k ≤ steps T → next_marked T marks f k t i ≡ next_marked T marks g k t i
unfolding next_marked
next_marked-eq T marks f g same zero t i le = refl
next_marked-eq T marks f g same (suc k) t i le =
    rw (next_marked-eq T marks f g same k (suc t) i (omega arith)) (go (touched T t i) refl)
  where
    go : (m : Bool) → touched T t i ≡ m
        → cond (m && marks t) (f t i) (next_marked T marks g k (suc t) i) ≡ cond (m && marks t) (g t i) (next_marked T marks g k (suc t) i)
    go true m =
        let is = entry-touched T t i m in
        let here : f t i ≡ g t i = rw is at (same t (omega arith) (omega (arith, is, touched-below T t i m))) in
        rw here
    go false m = refl
