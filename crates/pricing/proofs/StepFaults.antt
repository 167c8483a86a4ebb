-- The faults of one step: where it has none, each segment that it holds was held before or is touched, and it is accepted.
use Rattle.std.specs.Prelude.{Ok}
use Prim.Native.Nat.{ℕ, zero, suc, ◌<◌}
use mathlib.Core.Path.{◌≡◌, refl}
use mathlib.Core.Logic.{⊎_elim}
use mathlib.Core.Bool.{Bool, true, false, ◌||◌}
use mathlib.Core.List.{List}
use native.Mathlib.Omega.{arith}
use borrow.Author.Tests.{lt-ltb, not-false}
use Rattle.model.specs.Traces.{Trace, segs, touched}
use Rattle.model.specs.Schedules.{held}
use Rattle.model.proofs.Sums.{last-or-below}
use Rattle.model.proofs.Touches.{touched-below, entry-touched}
use Rattle.model.specs.Pricing.{missing, enters, some_enters, step_verdict, steps_verdict}

-- the parts of a disjunction that is false
pub or_left : (a b : Bool) → a || b ≡ false → a ≡ false
or_left true b e = e
or_left false b e = refl

pub or_right : (a b : Bool) → a || b ≡ false → b ≡ false
or_right true b e = let z : ◌≡◌ {A = ℕ} 0 1 = cc in absurd (omega arith)
or_right false b e = e

module _ (T : Trace) (p : List ℕ) where
  -- none of the first n enters exactly where each of them does not
  pub none-enters : (t n : ℕ) → some_enters T p t n ≡ false → (i : ℕ) → i < n → enters T p t i ≡ false
  unfolding some_enters
  none-enters t zero e i lt = absurd (omega arith)
  none-enters t (suc n) e i lt =
      ⊎_elim
      (λ s. rw s (or_right (some_enters T p t n) (enters T p t n) e))
      (λ l. none-enters t n (or_left (some_enters T p t n) (enters T p t n) e) i l)
      (last-or-below n i lt)

  -- a step is accepted where it has neither fault
  pub step-accepted : (t : ℕ) → missing T p t ≡ false → some_enters T p t 256 ≡ false → step_verdict T p t ≡ (Ok tt)
  unfolding step_verdict
  step-accepted t m e = rw (m, e)

  -- one accepted step more
  pub one_more : (n : ℕ) → steps_verdict T p n ≡ (Ok tt) → step_verdict T p n ≡ (Ok tt) → steps_verdict T p (suc n) ≡ (Ok tt)
  unfolding steps_verdict
  one_more n before e = rw (before, e)

  -- in a step that lacks nothing, the touched segment is held
  pub held-touched : (t i : ℕ) → missing T p t ≡ false → touched T t i ≡ true → held T p (suc t) i ≡ true
  unfolding missing
  held-touched t i none m =
      let same = entry-touched T t i m in
      not-false (held T p (suc t) i) (rw (same, lt-ltb i (segs T) (touched-below T t i m)) at none)
