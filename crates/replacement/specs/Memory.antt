-- Least-recently-used replacement in one memory of k frames, simulated touch by touch, with no order among its frames: a hit changes
-- nothing, and a miss takes a free frame or that of the segment with the greatest unreferenced time.
use Rattle.std.specs.Prelude.{ℕ, zero, suc, Bool, false, cond, ◌||◌, List, [], ◌∷◌, eqb, ltb, length}
use Rattle.model.specs.Sums.{tabulate}
use Rattle.model.specs.Traces.{Trace, segs, entry, over_touches}
use Rattle.replacement.specs.ByTime.{more_recent}

-- a list of segments has x
unfoldable pub has : ℕ → List ℕ → Bool
has x [] = false
has x (y ∷ ys) = eqb y x || has x ys

-- the least recently touched of y and the segments of a list, after t steps
unfoldable pub least_recent : Trace → ℕ → ℕ → List ℕ → ℕ
least_recent T t y [] = y
least_recent T t y (z ∷ zs) = cond (more_recent T t y z) (least_recent T t z zs) (least_recent T t y zs)

-- the frame that has y gets x
unfoldable pub replaced : ℕ → ℕ → List ℕ → List ℕ
replaced y x [] = []
replaced y x (z ∷ zs) = cond (eqb z y) x z ∷ replaced y x zs

-- a full memory after a miss of x in the step at place t: x has the frame of the least recently touched; without frames there is none
unfoldable pub swapped : Trace → ℕ → ℕ → List ℕ → List ℕ
swapped T t x [] = []
swapped T t x (y ∷ ys) = replaced (least_recent T t y ys) x (y ∷ ys)

-- the segments of k frames after a touch of x in the step at place t
unfoldable pub reloaded : Trace → ℕ → ℕ → ℕ → List ℕ → List ℕ
reloaded T k t x m = cond (has x m) m (cond (ltb (length m) k) (x ∷ m) (swapped T t x m))

-- the memory after t steps: all frames are free at first, and a step that touches nothing leaves them
unfoldable pub memory : Trace → ℕ → ℕ → List ℕ
memory T k zero = []
memory T k (suc t) = cond (ltb (entry T t) (segs T)) (reloaded T k t (entry T t) (memory T k t)) (memory T k t)

-- the misses with k frames: the touches whose segment is not in the memory
unfoldable pub lru_simulated : Trace → ℕ → ℕ
lru_simulated T k = over_touches T (λ t i. cond (has i (memory T k t)) 0 1)

-- the misses with 1, 2, .., segs frames
abbrev pub simulated_curve : Trace → List ℕ
simulated_curve T = tabulate (segs T) (λ j. lru_simulated T (suc j))
