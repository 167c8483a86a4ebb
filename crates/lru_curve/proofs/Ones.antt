-- Whether every size is 1, and what an accepted sheet then is known to be.
use Rattle.std.specs.Prelude.{Ok, Err}
use Prim.Native.Nat.{ℕ}
use mathlib.Core.Path.{◌≡◌, refl, ap}
use mathlib.Core.Bool.{Bool, true, false, cond, ◌&&◌}
use mathlib.Core.List.{List, [], ◌∷◌}
use native.Mathlib.Omega.{arith}
use lib.Dec.{eqb}
use lib.ListN.{length}
use borrow.Author.Tests.{eqb-true}
use Rattle.std.specs.List.{list_all}
use Rattle.model.specs.Refusals.{verdict_number}
use Rattle.model.specs.Sheets.{SheetValue, trace_of}
use Rattle.model.specs.Traces.{Trace}
use Rattle.model.specs.declared.Refusal.TheVariants.{SizeNotOne, WarmSegment}
use Rattle.replacement.specs.Answers.{all_ones, ones_verdict}
use Rattle.lru_curve.specs.inner.Left.{EveryRun}

-- a list of no element
pub length-zero : (l : List ℕ) → length l ≡ 0 → l ≡ []
length-zero [] e = refl
length-zero (x ∷ l) e = absurd (omega arith)

-- what the library's `all` says of the sizes
pub ones-listed : (l : List ℕ) → list_all (λ z. eqb z 1) l ≡ all_ones l
unfolding all_ones
ones-listed [] = refl
ones-listed (z ∷ zs) = ap (λ (b : Bool). eqb z 1 && b) (ones-listed zs)

-- the verdict by its tests
module _ (sizes : List ℕ) (warm : ℕ) where
  pub verdict-size : all_ones sizes ≡ false → ones_verdict sizes warm ≡ Err SizeNotOne
  unfolding ones_verdict
  verdict-size other = rw other

  pub verdict-warm : all_ones sizes ≡ true → eqb warm 0 ≡ false → ones_verdict sizes warm ≡ Err WarmSegment
  unfolding ones_verdict
  verdict-warm ones some = rw (ones, some)

  pub verdict-ones : all_ones sizes ≡ true → eqb warm 0 ≡ true → ones_verdict sizes warm ≡ (Ok tt)
  unfolding ones_verdict
  verdict-ones ones none = rw (ones, none)

  -- accepted, every size is 1 and none is warm
  pub accepted-ones : ones_verdict sizes warm ≡ (Ok tt) → (all_ones sizes ≡ true) × (warm ≡ 0)
  unfolding ones_verdict
  accepted-ones e = go (all_ones sizes) refl (eqb warm 0) refl (ap verdict_number e)
    where
      go : (b : Bool) → all_ones sizes ≡ b → (c : Bool) → eqb warm 0 ≡ c
          → verdict_number (cond (all_ones sizes) (cond (eqb warm 0) (Ok (tt {0})) (Err WarmSegment)) (Err SizeNotOne)) ≡ 0
          → (all_ones sizes ≡ true) × (warm ≡ 0)
      go true a true w f = (a, eqb-true warm 0 w)
      go true a false w f = absurd (let z : ◌≡◌ {A = ℕ} 27 0 = rw (a, w) at f in omega arith)
      go false a c w f = absurd (let z : ◌≡◌ {A = ℕ} 26 0 = rw a at f in omega arith)

-- so what holds of every run with its sizes and entries holds of that of the sheet
pub every-run : (v : SheetValue) (P : Trace → Type 0) → ones_verdict v.head.sizes (length v.head.warm) ≡ (Ok tt)
    → EveryRun v.head.sizes v.entries P → P (trace_of v)
every-run v P e all =
    let empty : v.head.warm ≡ [] = length-zero v.head.warm (accepted-ones v.head.sizes (length v.head.warm) e).1 in
    rw empty (all v.head.kind v.head.a)
