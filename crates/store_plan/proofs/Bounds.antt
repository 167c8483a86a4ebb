-- How large the excesses of a run can be.
use Prim.Native.Nat.{ℕ, zero, suc, ◌-◌, ◌*◌, ◌^◌, ◌≤◌, ◌<◌}
use mathlib.Core.Path.{◌≡◌, refl}
use mathlib.Core.Bool.{Bool, true, false, cond}
use mathlib.Core.Option.{Option, none, some}
use native.Mathlib.Omega.{arith}
use Rattle.model.specs.Figures.{of_time}
use Rattle.model.specs.Sheets.{RunWithin}
use Rattle.model.specs.Traces.{Trace, segs, steps, touched, size_of, swap_of, unit_of, unreferenced}
use Rattle.model.specs.declared.PriceRow.{PriceRow}
use Rattle.model.proofs.Bounds.{product-within, unit-within}
use Rattle.model.proofs.LastTouches.{unreferenced-within}
use Rattle.stores.specs.Modtotal.{excess, plus, since_mark}
use Rattle.store_plan.specs.inner.Touches.{held_since, SinceBelow}

-- an excess, 0 where there is none
abbrev pub amount : Option ℕ → ℕ
amount none = 0
amount (some e) = e

pub amount-below : (e : Option ℕ) (n : ℕ) → amount e < n → SinceBelow n (held_since e)
amount-below none n lt = tt
amount-below (some e) n lt = lt

plus-within : (e : Option ℕ) (x n : ℕ) → amount e ≤ n * 2 ^ 40 → x ≤ 2 ^ 40 → amount (plus e x) ≤ suc n * 2 ^ 40
plus-within none x n le lx = omega arith
plus-within (some y) x n le lx = omega arith

module _ (T : Trace) (ok : RunWithin T) (marks : ℕ → Bool) (row : PriceRow) (prices : (row.h < 2 ^ 16) × (row.d < 2 ^ 16)) where
  excess-within : (t i : ℕ) → t ≤ steps T → i < segs T → excess T row.h row.d t i ≤ 2 ^ 40
  excess-within t i le lt = go (unreferenced T t i) (unreferenced-within T t i)
    where
      go : (o : Option ℕ) → ((k : ℕ) → o ≡ some k → k ≤ t) → row.d * of_time (λ k. k * unit_of T i) o - row.h * swap_of T i ≤ 2 ^ 40
      go none below = omega arith
      go (some k) below =
          let unit : unit_of T i ≤ 4095 = unit-within T.kind (size_of T i) 4095 (omega arith) (ok.size_within i lt) in
          let few : k ≤ 2048 = omega (arith, below k refl, ok.steps_within) in
          let held : k * unit_of T i ≤ 2048 * 4095 = product-within k (unit_of T i) 2048 4095 few unit in
          omega (arith, product-within row.d (k * unit_of T i) (2 ^ 16) (2048 * 4095) (omega (arith, prices.1)) held)

  -- the number of an excess after t steps
  pub since-within : (t i : ℕ) → t ≤ steps T → i < segs T → amount (since_mark T marks row.h row.d t i) ≤ t * 2 ^ 40
  unfolding since_mark
  since-within zero i le lt = omega arith
  since-within (suc t) i le lt =
      go (touched T t i) (marks t) (since-within t i (omega arith) lt)
      (plus-within (since_mark T marks row.h row.d t i) (excess T row.h row.d t i) t (since-within t i (omega arith) lt)
      (excess-within t i (omega arith) lt))
    where
      e : Option ℕ
      e = since_mark T marks row.h row.d t i

      go : (m g : Bool) → amount e ≤ t * 2 ^ 40 → amount (plus e (excess T row.h row.d t i)) ≤ suc t * 2 ^ 40
          → amount (cond m (cond g (some 0) (plus e (excess T row.h row.d t i))) e) ≤ suc t * 2 ^ 40
      go true true old new = omega arith
      go true false old new = new
      go false g old new = omega arith
