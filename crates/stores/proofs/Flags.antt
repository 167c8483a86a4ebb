-- A permitted schedule lets no segment enter untouched, so what is held was held since its last touch: a flag that changes only at touches
-- tells what is modified, and so the stores.
use Prim.Native.Nat.{ℕ, zero, suc, ◌≤◌, ◌<◌}
use mathlib.Core.Path.{◌≡◌, refl, sym}
use mathlib.Core.Bool.{Bool, true, false, cond, ◌&&◌, ◌||◌, and-false}
use native.Mathlib.Omega.{arith}
use Rattle.model.specs.Traces.{Trace, steps, touched}
use Rattle.stores.specs.inner.Marks.{dirty}
use Rattle.stores.specs.inner.Flags.{modified_flag}

-- one step of one segment: m says whether it is touched, g whether a touch modifies, b and c whether it is held before the step and in it,
-- f is its flag
one-step : (m g b c f : Bool) → (m ≡ false → c ≡ true → b ≡ true) → c && ((m && g) || (b && f)) ≡ c && cond m (g || (b && f)) f
one-step true g b true f stay = refl
one-step true g b false f stay = refl
one-step false g b false f stay = refl
one-step false g b true f stay = rw (stay refl refl)

pub dirty-flag : (T : Trace) (marks : ℕ → Bool) (S : ℕ → ℕ → Bool) (i : ℕ)
    → ((t : ℕ) → t < steps T → touched T t i ≡ false → S (suc t) i ≡ true → S t i ≡ true)
    → (t : ℕ) → t ≤ steps T → dirty T marks S t i ≡ S t i && modified_flag T marks S t i
unfolding dirty modified_flag
dirty-flag T marks S i stays zero le = sym (and-false (S 0 i))
dirty-flag T marks S i stays (suc t) le =
    rw (dirty-flag T marks S i stays t (omega arith))
    (one-step (touched T t i) (marks t) (S t i) (S (suc t) i) (modified_flag T marks S t i) (stays t le))
