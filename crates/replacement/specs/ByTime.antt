-- Least recently used, by the times since the last touches alone: no list, and nothing of a memory. The times of the model start from the
-- warm segments; the lists of Recency.antt and Memory.antt start empty, so the two are compared in runs with no warm segment.
use Rattle.std.specs.Prelude.{ℕ, suc, Bool, true, false, cond, ◌&&◌, ltb}
use Rattle.std.proofs.Math.Option.{Option, none, some}
use Rattle.model.specs.Figures.{is_reuse}
use Rattle.model.specs.Traces.{Trace, over_segments, unreferenced}

-- one time is less than another; a segment not touched yet has none, and every time is less than that
unfoldable pub sooner : Option ℕ → Option ℕ → Bool
sooner none o = false
sooner (some m) none = true
sooner (some m) (some k) = ltb m k

-- segment j was touched more recently than segment i: after t steps its unreferenced time is less
abbrev pub more_recent : Trace → ℕ → ℕ → ℕ → Bool
more_recent T t j i = sooner (unreferenced T t j) (unreferenced T t i)

-- how many distinct segments were touched since the last touch of segment i, which is none of them
unfoldable pub newer_than : Trace → ℕ → ℕ → ℕ
newer_than T t i = over_segments T (λ j. cond (more_recent T t j i) 1 0)

-- the stack distance of a touch of segment i in the step at place t: 1 + the distinct other segments touched since its last touch; none
-- for a first touch
unfoldable pub time_distance : Trace → ℕ → ℕ → Option ℕ
time_distance T t i = cond (is_reuse (unreferenced T t i)) (some (suc (newer_than T t i))) none

-- segment i is among the k most recently touched after t steps: it was touched, and fewer than k were touched more recently
unfoldable pub among_recent : Trace → ℕ → ℕ → ℕ → Bool
among_recent T k t i = is_reuse (unreferenced T t i) && ltb (newer_than T t i) k
