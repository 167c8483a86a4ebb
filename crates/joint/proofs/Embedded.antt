-- A run H that stands in a run U, its segments numbered from k on: of these segments U says what H says.
use Prim.Native.Nat.{ℕ, zero, suc, ◌+◌, ◌-◌, ◌≤◌, ◌<◌}
use mathlib.Core.Path.{◌≡◌, refl, sym, ap, ◌∙◌}
use mathlib.Core.Bool.{false, cond, ◌||◌}
use mathlib.Core.Option.{Option}
use native.Mathlib.Omega.{arith}
use Rattle.model.specs.Figures.{kept}
use Rattle.model.specs.Schedules.{next_kept, optimal_held}
use Rattle.model.specs.Sums.{sum}
use Rattle.model.specs.Traces.{Trace, segs, steps, size_of, touched, touching, over_touches, unreferenced}
use Rattle.model.specs.declared.Kind.{Kind}
use Rattle.model.proofs.Sums.{sum-eq}
use Rattle.model.proofs.Touches.{touching-sum}
use Rattle.joint.proofs.Beyond.{untouched-beyond, touches-longer, next-beyond, next-longer}

-- H stands in U: U is no shorter, and has the segments of H at the numbers from k on, with the same sizes, start and touches
pub record Embedded (U H : Trace) (k : ℕ) : Type 0 where
  pub same_kind : U.kind ≡ H.kind
  pub same_a : U.a ≡ H.a
  pub within : steps H ≤ steps U
  pub same_size : (i : ℕ) → i < segs H → size_of U (k + i) ≡ size_of H i
  pub same_start : (i : ℕ) → i < segs H → U.start (k + i) ≡ H.start i
  pub same_touched : (t i : ℕ) → i < segs H → touched U t (k + i) ≡ touched H t i

-- what follows from kind, a, the size of the segment and its unreferenced time
abbrev pub Local : Type 0
Local = Kind → ℕ → ℕ → Option ℕ → ℕ

-- it, of segment i after t steps of a run
abbrev pub local_of : Local → Trace → ℕ → ℕ → ℕ
local_of g T t i = g T.kind T.a (size_of T i) (unreferenced T t i)

module _ (U H : Trace) (k : ℕ) (e : Embedded U H k) where
  pub same-unreferenced : (t i : ℕ) → i < segs H → unreferenced U t (k + i) ≡ unreferenced H t i
  unfolding unreferenced
  same-unreferenced zero i lt = rw (e.same_start i lt)
  same-unreferenced (suc t) i lt = rw (e.same_touched t i lt, same-unreferenced t i lt)

  pub same-local : (g : Local) (t i : ℕ) → i < segs H → local_of g U t (k + i) ≡ local_of g H t i
  same-local g t i lt = rw (same-unreferenced t i lt, e.same_size i lt, e.same_a, e.same_kind)

  -- what the touches of these segments add is what those of H add
  pub same-touches : (g : Local)
      → sum (steps U) (λ t. sum (segs H) (λ i. cond (touched U t (k + i)) (local_of g U t (k + i)) 0)) ≡ over_touches H (local_of g H)
  same-touches g =
      let longer : steps U ≡ steps H + (steps U - steps H) = omega (arith, e.within) in
      sum-eq (steps U) (λ t. sum (segs H) (λ i. cond (touched U t (k + i)) (local_of g U t (k + i)) 0)) (touching H (local_of g H))
      (λ t lt.
      sum-eq (segs H) (λ i. cond (touched U t (k + i)) (local_of g U t (k + i)) 0) (λ i. cond (touched H t i) (local_of g H t i) 0)
      (λ i l. rw (e.same_touched t i l, same-local g t i l)) ∙ sym (touching-sum H (local_of g H) t))
      ∙ ap (λ n. sum n (touching H (local_of g H))) longer
      ∙ touches-longer H (steps U - steps H) (local_of g H)

  module _ (h d : ℕ) where
    pub same_kept : (t i : ℕ) → i < segs H → kept U h d t (k + i) ≡ kept H h d t i
    unfolding kept
    same_kept t i lt = rw (same-unreferenced t i lt, e.same_size i lt, e.same_a, e.same_kind)

    same_next : (n t i : ℕ) → i < segs H → next_kept U h d n t (k + i) ≡ next_kept H h d n t i
    unfolding next_kept
    same_next zero t i lt = refl
    same_next (suc n) t i lt = rw (e.same_touched t i lt, same_kept t i lt, same_next n (suc t) i lt)

    -- the optimal schedule holds of them what that of H holds in its steps, and none of them later
    pub same-held : (t i : ℕ) → t < steps H → i < segs H → optimal_held U h d t (k + i) ≡ optimal_held H h d t i
    unfolding optimal_held
    same-held t i lt l =
        let longer : steps U - suc t ≡ (steps H - suc t) + (steps U - steps H) = omega (arith, e.within) in
        rw (e.same_touched t i l, same_next (steps U - suc t) (suc t) i l, longer)
        (ap (λ b. touched H t i || b) (next-longer H h d (steps H - suc t) (steps U - steps H) (suc t) i (omega arith)))

    pub held_none : (t i : ℕ) → steps H ≤ t → i < segs H → optimal_held U h d t (k + i) ≡ false
    unfolding optimal_held
    held_none t i le l =
        rw (
          e.same_touched t i l,
          untouched-beyond H t i le,
          same_next (steps U - suc t) (suc t) i l,
          next-beyond H h d (steps U - suc t) (suc t) i (omega arith),
        )
