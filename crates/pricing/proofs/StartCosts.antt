-- The cost for one step of what is held before step 1: the loop that adds it up by the start table.
use Prim.Native.Nat.{ℕ, ◌+◌, ◌*◌, ◌≤◌, ◌<◌}
use mathlib.Core.Path.{◌≡◌, refl, sym, ◌∙◌}
use mathlib.Core.Bool.{Bool, true, false, cond}
use mathlib.Core.List.{List, [], ◌∷◌}
use native.Mathlib.Omega.{arith}
use native.Mathlib.Numerals.{add-one}
use lib.Dec.{eqb}
use lib.ListN.{length, get_or}
use Rattle.model.specs.Costs.{unit_cost}
use Rattle.model.specs.LastTouches.{start_table, untouched_mark}
use Rattle.model.specs.Sheets.{listed}
use Rattle.model.specs.Sums.{sum}
use Rattle.model.specs.declared.Kind.{Kind}
use Rattle.model.proofs.LastTouches.{listed-none}
use Rattle.model.proofs.Sums.{sum-none, sum-suc, sum-zero}
use Rattle.model.proofs.Tables.{get_or-tabulate}
use Rattle.pricing.specs.inner.StartCost.{start_cost}

-- the table is 0 exactly at the warm segments
start-zero : (warm : List ℕ) (i : ℕ) → i < 256 → eqb (get_or (start_table warm) i 0) 0 ≡ listed warm i
unfolding start_table
start-zero warm i lt = rw (get_or-tabulate 256 (λ i. cond (listed warm i) 0 untouched_mark) i 0 lt) (go (listed warm i))
  where
    go : (b : Bool) → eqb (cond b 0 untouched_mark) 0 ≡ b
    go true = refl
    go false = refl

module _ (kind : Kind) (sizes warm : List ℕ) where
  -- what segment i adds
  abbrev term : ℕ → ℕ
  term i = cond (listed warm i) (unit_cost kind (get_or sizes i 0)) 0

  -- the segments below i are added up
  pub record Added (cost i : ℕ) : Type 0 where
    pub within : i ≤ length sizes
    pub cost_is : cost ≡ sum i term
    pub small : cost ≤ i * 65535

  pub added-start : Added 0 0
  added-start = record { within = omega arith; cost_is = sym (sum-none term); small = omega arith }

  pub added-step : (last : List ℕ) (cost i r next : ℕ) → last ≡ start_table warm → Added cost i → i < length sizes → length sizes ≤ 256
      → (r ≡ cond (eqb (get_or last i 0) 0) (unit_cost kind (get_or sizes i 0)) 0) × (r < 65536) → next ≡ cost + r → Added next (i + 1)
  added-step last cost i r next table v lt few is more =
      let here : r ≡ term i = is.0 ∙ rw (table, start-zero warm i (omega arith)) in
      record {
        within = omega arith;
        cost_is = rw (add-one i) (omega (arith, v.cost_is, here, sum-suc i term));
        small = omega (arith, v.small, is.1);
      }

  pub added-all : (cost i : ℕ) → Added cost i → length sizes ≤ i → cost ≡ start_cost kind sizes warm
  unfolding start_cost
  added-all cost i v le = let all : i ≡ length sizes = omega (arith, v.within) in rw all at v.cost_is

  -- where there is none, it is 0
  pub start-free : length warm ≡ 0 → 0 ≡ start_cost kind sizes warm
  unfolding start_cost
  start-free e = go warm e
    where
      go : (l : List ℕ) → length l ≡ 0 → 0 ≡ sum (length sizes) (λ i. cond (listed l i) (unit_cost kind (get_or sizes i 0)) 0)
      go [] e = sym (sum-zero (length sizes) (λ i. cond (listed [] i) (unit_cost kind (get_or sizes i 0)) 0) (λ i l. rw (listed-none i)))
      go (x ∷ l) e = absurd (omega arith)
