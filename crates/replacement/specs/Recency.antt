-- The recency list and the stack distances, the misses of least-recently-used replacement by them, and the entries of the list that one
-- pass looks at.
use Rattle.std.specs.Prelude.{ℕ, zero, suc, cond, List, [], ltb, length}
use Rattle.std.proofs.Math.Option.{Option, none, some}
use Rattle.model.specs.Figures.{is_reuse}
use Rattle.model.specs.Sums.{tabulate}
use Rattle.model.specs.Traces.{Trace, segs, over_touches, over_segments, unreferenced}
use Rattle.replacement.specs.Orders.{place_of, to_front, after_step}

-- the recency list after t steps: each segment touched so far, the most recent first
unfoldable pub recency : Trace → ℕ → List ℕ
recency T zero = []
recency T (suc t) = after_step T to_front t (recency T t)

-- the stack distance of a touch of segment i in the step at place t: its place in the list; none for a first touch
unfoldable pub distance : Trace → ℕ → ℕ → Option ℕ
distance T t i = place_of i (recency T t)

-- 1 for a miss with k frames: a first touch, or a distance above k
abbrev pub miss_beyond : ℕ → Option ℕ → ℕ
miss_beyond k none = 1
miss_beyond k (some p) = cond (ltb k p) 1 0

-- the misses with k frames
unfoldable pub lru_misses : Trace → ℕ → ℕ
lru_misses T k = over_touches T (λ t i. miss_beyond k (distance T t i))

-- the misses with 1, 2, .., segs frames
abbrev pub lru_curve : Trace → List ℕ
lru_curve T = tabulate (segs T) (λ j. lru_misses T (suc j))

-- entries looked at in a list: from the most recent up to the segment, or the whole list on a first touch
abbrev pub looked_in : List ℕ → Option ℕ → ℕ
looked_in l none = length l
looked_in l (some p) = p

-- entries of the recency list looked at
unfoldable pub entries_looked : Trace → ℕ
entries_looked T = over_touches T (λ t i. looked_in (recency T t) (distance T t i))

-- how many distinct segments are touched in the first t steps
unfoldable pub distinct : Trace → ℕ → ℕ
distinct T t = over_segments T (λ i. cond (is_reuse (unreferenced T t i)) 1 0)
