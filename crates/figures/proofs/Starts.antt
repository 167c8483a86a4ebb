-- The swap costs of the warm segments, as the code adds them up by the table before step 1.
use Prim.Native.Nat.{ℕ, ◌+◌, ◌*◌, ◌<◌}
use mathlib.Core.Path.{◌≡◌, refl, ap, ◌∙◌}
use mathlib.Core.Bool.{Bool, true, false, cond}
use mathlib.Core.List.{List, [], ◌∷◌}
use native.Mathlib.Omega.{arith}
use native.Mathlib.Numerals.{add-one}
use lib.Dec.{eqb}
use lib.ListN.{length, get_or}
use Rattle.model.specs.Costs.{swap_cost}
use Rattle.model.specs.LastTouches.{untouched_mark, start_table}
use Rattle.model.specs.Sheets.{listed, most_segs, run_of}
use Rattle.model.specs.Sums.{sum}
use Rattle.model.specs.Traces.{Trace, size_of, swap_of}
use Rattle.model.specs.declared.Kind.{Kind}
use Rattle.model.specs.declared.LoadUnits.{LoadUnits}
use Rattle.model.proofs.FirstTouches.{started}
use Rattle.model.proofs.LastTouches.{listed-none}
use Rattle.model.proofs.Sums.{sum-zero}
use Rattle.model.proofs.Tables.{get_or-tabulate}
use Rattle.model.proofs.Units.{load_is}
use Rattle.figures.specs.inner.Sweep.{warm_sum, swaps_up_to, start_swaps}
use Rattle.figures.specs.declared.rows.StartSwaps.{StartSwaps}

-- the swap costs of a run's start set, added, and the same with each multiplied by its size
abbrev pub start_set : Trace → StartSwaps
start_set T =
    record {
      swap = record { 0 = started T (λ i. swap_of T i) };
      swapz = record { 0 = started T (λ i. swap_of T i * size_of T i) };
    }

-- they are those of the warm segments
pub starts-are : (kind : Kind) (a : ℕ) (sizes warm refs : List ℕ) → start_swaps a sizes warm ≡ start_set (run_of kind a sizes warm refs)
unfolding swaps_up_to warm_sum
starts-are kind a sizes warm refs = refl

-- none where no segment is warm
pub swaps-cold : (a : ℕ) (sizes warm : List ℕ) → length warm ≡ 0
    → record { swap = record { 0 = 0 }; swapz = record { 0 = 0 } } ≡ start_swaps a sizes warm
unfolding swaps_up_to warm_sum
swaps-cold a sizes [] e =
    rw (nothing (λ i. swap_cost a (get_or sizes i 0)), nothing (λ i. swap_cost a (get_or sizes i 0) * get_or sizes i 0)) refl
  where
    nothing : (g : ℕ → ℕ) → sum (length sizes) (λ i. cond (listed [] i) (g i) 0) ≡ 0
    nothing g = sum-zero (length sizes) (λ i. cond (listed [] i) (g i) 0) (λ i lt. rw (listed-none i) refl)
swaps-cold a sizes (x ∷ xs) e = absurd (omega arith)

module _ (a : ℕ) (sizes warm : List ℕ) where
  -- none of the first 0 segments
  pub swaps-none : record { swap = record { 0 = 0 }; swapz = record { 0 = 0 } } ≡ swaps_up_to a sizes warm 0
  unfolding swaps_up_to warm_sum sum
  swaps-none = refl

  -- the mark 0 is that of a warm segment
  marked : (i x : ℕ) → i < most_segs → cond (eqb (get_or (start_table warm) i 0) 0) x 0 ≡ cond (listed warm i) x 0
  unfolding start_table
  marked i x lt = rw (get_or-tabulate most_segs (λ i. cond (listed warm i) 0 untouched_mark) i 0 lt) (go (listed warm i))
    where
      go : (b : Bool) → cond (eqb (cond b 0 untouched_mark) 0) x 0 ≡ cond b x 0
      go true = refl
      go false = refl

  -- one segment more, as the code takes it
  pub swaps-more : (i : ℕ) → i < most_segs → {swap swapz x y : LoadUnits} {w : ℕ}
      → record { swap = swap; swapz = swapz } ≡ swaps_up_to a sizes warm i
      → w ≡ cond (eqb (get_or (start_table warm) i 0) 0) (swap_cost a (get_or sizes i 0)) 0
      → x.0 ≡ swap.0 + w → y.0 ≡ swapz.0 + w * get_or sizes i 0 → record { swap = x; swapz = y } ≡ swaps_up_to a sizes warm (i + 1)
  unfolding swaps_up_to warm_sum sum
  swaps-more i lt {w = w} e is more morez =
      let z = get_or sizes i 0 in
      let one : w ≡ cond (listed warm i) (swap_cost a z) 0 = is ∙ marked i (swap_cost a z) lt in
      rw (
        add-one i,
        load_is more,
        load_is morez,
        ap (λ (s : StartSwaps). s.swap.0) e,
        ap (λ (s : StartSwaps). s.swapz.0) e,
        one,
        times (listed warm i)
            (swap_cost a z) z,
      ) refl
    where
      times : (b : Bool) (x z : ℕ) → cond b x 0 * z ≡ cond b (x * z) 0
      times true x z = refl
      times false x z = omega arith
