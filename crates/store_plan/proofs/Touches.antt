-- One touch of a pass: its excess is small, and what the two numbers of its segment tell is what the definitions say.
use Prim.Native.Nat.{ℕ, ◌-◌, ◌*◌, ◌^◌, ◌<◌}
use mathlib.Core.Path.{◌≡◌, refl}
use mathlib.Core.Bool.{Bool, true, false, cond}
use mathlib.Core.Option.{Option, none, some}
use native.Mathlib.Omega.{arith}
use lib.Dec.{eqb, leb}
use lib.ListN.{get_or}
use borrow.Author.Tests.{leb-true, leb-false, eq-eqb, ne_eqb}
use Rattle.model.specs.Costs.{swap_cost, retention, keeps}
use Rattle.model.specs.Figures.{of_time, is_reuse, kept}
use Rattle.model.specs.LastTouches.{last_table}
use Rattle.model.specs.Traces.{Trace, size_of, swap_of}
use Rattle.model.specs.declared.Kind.{Kind}
use Rattle.model.specs.declared.PriceRow.{PriceRow}
use Rattle.model.proofs.Bounds.{product-within, retention_within}
use Rattle.model.proofs.LastTouches.{last-time}
use Rattle.stores.specs.Modtotal.{excess, plus, or_store, joins}
use Rattle.store_plan.specs.inner.Touches.{held_since, excess_by, kept_by, since_plus, since_after, store_by, joins_by}

-- an excess of 16-bit numbers
pub excess_small : (kind : Kind) (a : ℕ) (row : PriceRow) (z mark t : ℕ) → z < 2 ^ 16 → t < 2 ^ 16 → row.d < 2 ^ 16
    → excess_by kind a row z mark t < 2 ^ 48
excess_small kind a row z mark t lz lt ld = go (leb mark t)
  where
    go : (b : Bool) → cond b (row.d * retention kind z (t - mark) - row.h * swap_cost a z) 0 < 2 ^ 48
    go true =
        omega (
          arith,
          product-within row.d (retention kind z (t - mark)) (2 ^ 16) (2 ^ 32 - 1) (omega arith)
              (omega (arith, retention_within kind z (t - mark) lz (omega arith))),
        )
    go false = omega arith

-- an excess or none, as it is held: with x more, after a touch, and what it tells of a touch: what that adds, and whether it joins
pub held-plus : (e : Option ℕ) (x : ℕ) → since_plus (held_since e) x ≡ held_since (plus e x)
held-plus none x = refl
held-plus (some e) x = refl

pub held-after : (g : Bool) (e : Option ℕ) → since_after g (held_since e) ≡ held_since (cond g (some 0) e)
held-after true e = refl
held-after false e = refl

pub held-store : (g : Bool) (hw : ℕ) (e : Option ℕ) → store_by g hw (held_since e) ≡ cond g (or_store hw e) 0
held-store true hw none = refl
held-store true hw (some e) = refl
held-store false hw e = refl

pub held-joins : (hw : ℕ) (e : Option ℕ) → joins_by hw (held_since e) ≡ joins hw e
held-joins hw none = refl
held-joins hw (some e) = refl

-- the mark in the table of last touches tells the excess of a touch, and whether it is a kept reuse
module _ (T : Trace) (row : PriceRow) (t i : ℕ) (few : i < 256) (short : t < 65535) where
  abbrev mark : ℕ
  mark = get_or (last_table T t) i 0

  pub excess-mark : excess_by T.kind T.a row (size_of T i) mark t ≡ excess T row.h row.d t i
  excess-mark = rw (← last-time T t i 0 few short) (go (leb mark t) (t - mark))
    where
      go : (b : Bool) (k : ℕ)
          → cond b (row.d * retention T.kind (size_of T i) k - row.h * swap_of T i) 0
          ≡ row.d * of_time (retention T.kind (size_of T i)) (cond b (some k) none) - row.h * swap_of T i
      go true k = refl
      go false k = omega arith

  pub kept-mark : kept_by mark t (excess_by T.kind T.a row (size_of T i) mark t) ≡ kept T row.h row.d t i
  unfolding kept
  kept-mark = rw (← last-time T t i 0 few short) (go (leb mark t) (t - mark))
    where
      within : (x y : ℕ) → eqb (x - y) 0 ≡ leb x y
      within x y = at (leb x y) refl
        where
          at : (b : Bool) → leb x y ≡ b → eqb (x - y) 0 ≡ leb x y
          at true e = let le = leb-true x y e in rw e (eq-eqb (x - y) 0 (omega arith))
          at false e = let gt = leb-false x y e in rw e (ne_eqb (x - y) 0 (λ z. omega arith))

      go : (b : Bool) (k : ℕ)
          → cond b (eqb (cond b (row.d * retention T.kind (size_of T i) k - row.h * swap_of T i) 0) 0) false
          ≡ cond (is_reuse (cond b (some k) none))
          (keeps (row.d * of_time (retention T.kind (size_of T i)) (cond b (some k) none)) (row.h * swap_of T i)) false
      go true k = within (row.d * retention T.kind (size_of T i) k) (row.h * swap_of T i)
      go false k = refl
