-- How much the modifying touches of a run within the limits can add to opttotal: a store each.
use Prim.Native.Nat.{ℕ, ◌+◌, ◌*◌, ◌≤◌, ◌<◌}
use mathlib.Core.Bool.{Bool, cond}
use mathlib.Core.Option.{Option, none, some}
use native.Mathlib.Omega.{arith}
use Rattle.model.specs.Sheets.{RunWithin, largest_a, largest_size, largest_price, most_steps}
use Rattle.model.specs.Sums.{sum}
use Rattle.model.specs.Traces.{Trace, segs, steps, size_of, swap_of, touching}
use Rattle.model.proofs.Bounds.{product-within, either-within}
use Rattle.model.proofs.Loads.{touching-within}
use Rattle.stores.specs.Modtotal.{or_store, since_through, store_cost, mod_added}

-- the largest w
abbrev pub largest_swap : ℕ
largest_swap = 1 + largest_a * largest_size

-- a store or less
store-within : (hw : ℕ) (e : Option ℕ) → or_store hw e ≤ hw
store-within hw none = omega arith
store-within hw (some e) = omega arith

module _ (T : Trace) (ok : RunWithin T) where
  pub swap_within : (i : ℕ) → i < segs T → swap_of T i ≤ largest_swap
  swap_within i lt = omega (arith, product-within T.a (size_of T i) largest_a largest_size ok.a_within (ok.size_within i lt))

  module _ (marks : ℕ → Bool) (h d : ℕ) (price : h ≤ largest_price) where
    -- what a touch adds
    touch-within : (t i : ℕ) → i < segs T → cond (marks t) (store_cost T marks h d t i) 0 ≤ largest_price * largest_swap
    unfolding store_cost
    touch-within t i lt =
        either-within (marks t) (store_cost T marks h d t i) 0 (largest_price * largest_swap)
        (omega (
          arith,
          store-within (h * swap_of T i) (since_through T marks h d t i),
          product-within h (swap_of T i) largest_price largest_swap price (swap_within i lt),
        ))
        (omega arith)

    -- those of the first n steps, and all
    pub added-within : (n : ℕ) → sum n
        (touching T (λ t i. cond (marks t) (store_cost T marks h d t i) 0)) ≤ n * (largest_price * largest_swap)
    added-within n = touching-within T n (largest_price * largest_swap) _ (λ t i lt l. touch-within t i l)

    pub mod_added-within : mod_added T marks h d ≤ most_steps * (largest_price * largest_swap)
    unfolding mod_added
    mod_added-within = omega (arith, added-within (steps T), ok.steps_within)
