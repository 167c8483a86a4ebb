-- The stores of a schedule by two methods: w at the first modifying touch of a stay, as a pricer counts it on its way, and w where the stay
-- ends. That both give `stores_of` is proved (proofs/Stays.antt, proofs/Ends.antt).
use Rattle.std.specs.Prelude.{ℕ, zero, suc, ◌+◌, Bool, false, cond, not, ◌&&◌, ◌||◌}
use Rattle.model.specs.Sums.{sum}
use Rattle.model.specs.Traces.{Trace, steps, swap_of, over_touches, over_segments}
use Rattle.stores.specs.Stays.{modifies}

-- segment i is held in step t, in a stay that has had a modifying touch, in this step or before; no segment is modified before step 1
unfoldable pub dirty : Trace → (ℕ → Bool) → (ℕ → ℕ → Bool) → ℕ → ℕ → Bool
dirty T marks S zero i = false
dirty T marks S (suc t) i = S (suc t) i && (modifies T marks t i || dirty T marks S t i)

-- w at the first modifying touch of a stay
unfoldable pub stores_at_marks : Trace → (ℕ → Bool) → (ℕ → ℕ → Bool) → ℕ
stores_at_marks T marks S = over_touches T (λ t i. cond (marks t && not (dirty T marks S t i)) (swap_of T i) 0)

-- w where a stay with one ends: the next step does not hold the segment, or the record ends
unfoldable pub stores_at_ends : Trace → (ℕ → Bool) → (ℕ → ℕ → Bool) → ℕ
stores_at_ends T marks S =
    sum (steps T) (λ t. over_segments T (λ i. cond (dirty T marks S t i && not (S (suc t) i)) (swap_of T i) 0))
    + over_segments T (λ i. cond (dirty T marks S (steps T) i) (swap_of T i) 0)
