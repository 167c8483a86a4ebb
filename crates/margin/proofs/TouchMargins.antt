-- The margin of the touch at place t, from the touched segment's unreferenced time; and how large its priced costs can be.
use Rattle.std.specs.Prelude.{None, Some, Ok, Err}
use Rattle.std.proofs.lemmas.Option.{none-some, same_Some}
use Prim.Native.Nat.{ℕ, ◌*◌, ◌^◌, ◌<◌}
use mathlib.Core.Path.{◌≡◌, refl, sym}
use mathlib.Core.Bool.{cond}
use mathlib.Core.Option.{Option, none, some}
use native.Mathlib.Omega.{arith}
use Rattle.model.specs.Costs.{swap_cost, retention, margin_of}
use Rattle.model.specs.Figures.{is_reuse, of_time, margin_at}
use Rattle.model.specs.Sheets.{SheetValue, trace_of, row_at}
use Rattle.model.specs.Traces.{Trace, entry, size_of, unreferenced}
use Rattle.model.specs.declared.PriceRow.{PriceRow}
use Rattle.model.specs.declared.Refusal.TheVariants.{FirstTouch}
use Rattle.model.proofs.Bounds.{product-within}
use Rattle.model.specs.Margins.{touch_margin}
use Rattle.margin.specs.inner.Times.{time_of}

-- a cost that may be priced, priced
pub priced-room : (p c : ℕ) → p < 2 ^ 16 → c < 2 ^ 32 → p * c < 2 ^ 62
priced-room p c lp lc = omega (arith, product-within p c (2 ^ 16) (2 ^ 32) (omega arith) (omega arith))

-- a row of a sheet with the run T, whose step at place t touches segment i
module _ (T : Trace) (t i : ℕ) (here : entry T t ≡ i) (row : PriceRow) (v : SheetValue) (n : ℕ) (run : trace_of v ≡ T)
    (priced : row_at v n ≡ row) where
  touch_is : touch_margin v n t ≡ cond (is_reuse (unreferenced T t i)) (Ok (margin_at T row.h row.d t i)) (Err FirstTouch)
  unfolding touch_margin
  touch_is = rw (← here, ← run, ← priced) refl

  pub first-touch : None ≡ time_of (unreferenced T t i) → touch_margin v n t ≡ Err FirstTouch
  first-touch e = rw touch_is (go (unreferenced T t i) e)
    where
      go : (o : Option ℕ) → None ≡ time_of o → cond (is_reuse o) (Ok (margin_at T row.h row.d t i)) (Err FirstTouch) ≡ Err FirstTouch
      go none e = refl
      go (some k) e = absurd (none-some k e)

  -- the answer for a reuse, from its costs and what they are priced at
  pub reuse-touch : (time R w dR hw : ℕ) → Some time ≡ time_of (unreferenced T t i) → R ≡ retention T.kind (size_of T i) time
      → w ≡ swap_cost T.a (size_of T i) → dR ≡ row.d * R → hw ≡ row.h * w → touch_margin v n t ≡ Ok (margin_of dR hw)
  reuse-touch time R w dR hw e is-R is-w is-dR is-hw =
      rw (touch_is, is-dR, is-hw, is-R, is-w) (go (unreferenced T t i) e)
    where
      go : (o : Option ℕ) → Some time ≡ time_of o
          → cond (is_reuse o) (Ok (margin_of (row.d * of_time (retention T.kind (size_of T i)) o) (row.h * swap_cost T.a (size_of T i))))
          (Err FirstTouch)
          ≡ Ok (margin_of (row.d * retention T.kind (size_of T i) time) (row.h * swap_cost T.a (size_of T i)))
      go none e = absurd (none-some time (sym e))
      go (some k) e = rw (same_Some time k e) refl
