-- The margin of a reuse: its value on either side of 0, its range, and that it is 0 or more exactly when the reuse is kept.
use Prim.Native.Nat.{ℕ, zero, suc, ◌-◌, ◌*◌, ◌≤◌, ◌<◌, ◌^◌}
use mathlib.Core.Path.{◌≡◌, refl, ap}
use mathlib.Core.Bool.{Bool, true, false}
use native.Mathlib.Omega.{arith}
use lib.Dec.{leb}
use lib.IntN.{pos, negsuc}
use lib.Signed.{non_neg}
use mir.Syntax.{w64}
use mir.Val.{SFits}
use borrow.Author.Tests.{le-ltb, lt-ltb, leb-true, leb-false}
use Rattle.model.specs.Costs.{keeps, margin_of}
use Rattle.model.specs.Traces.{Trace, swap_of, unreferenced}
use Rattle.model.specs.Figures.{is_reuse, kept, retention_of, margin_at}

pub margin-kept : (dR hw : ℕ) → dR ≤ hw → margin_of dR hw ≡ pos (hw - dR)
margin-kept zero hw le = ap pos (omega arith)
margin-kept (suc n) hw le = rw (le-ltb hw (suc n) le)

pub margin-removed : (dR hw : ℕ) → hw < dR → margin_of dR hw ≡ negsuc (dR - suc hw)
margin-removed zero hw lt = absurd (omega arith)
margin-removed (suc n) hw lt = rw (lt-ltb hw (suc n) lt)

-- the margin is 0 or more exactly when the reuse is kept
pub margin-sign : (dR hw : ℕ) → non_neg (margin_of dR hw) ≡ keeps dR hw
margin-sign dR hw = go (leb dR hw) refl
  where
    go : (b : Bool) → leb dR hw ≡ b → non_neg (margin_of dR hw) ≡ keeps dR hw
    go true e = rw (margin-kept dR hw (leb-true dR hw e), e)
    go false e = rw (margin-removed dR hw (leb-false dR hw e), e)

-- so it is of a touch that is a reuse
pub reuse-margin : (T : Trace) (h d t i : ℕ) → is_reuse (unreferenced T t i) ≡ true → non_neg (margin_at T h d t i) ≡ kept T h d t i
unfolding kept
reuse-margin T h d t i e = rw e (margin-sign (d * retention_of T t i) (h * swap_of T i))

-- it fits a signed 64-bit number where both prices are below 2 ^ 62
pub margin-fits : (dR hw : ℕ) → dR < 2 ^ 62 → hw < 2 ^ 62 → SFits w64 (margin_of dR hw)
margin-fits dR hw a b = go (leb dR hw) refl
  where
    go : (t : Bool) → leb dR hw ≡ t → SFits w64 (margin_of dR hw)
    go true e = rw (margin-kept dR hw (leb-true dR hw e)) (record { sfits = omega arith })
    go false e = rw (margin-removed dR hw (leb-false dR hw e)) (record { sfits = omega (arith, leb-false dR hw e) })
