-- Least-recently-used replacement: which segment goes from a memory of k frames, and when; m t are the segments that
-- it has after t steps.
use Rattle.std.specs.Prelude.{ℕ, suc, ◌≤◌, ◌<◌, ◌≡◌, true, false, List, length}
use Rattle.model.specs.Traces.{Trace, segs, entry, touched}
use Rattle.replacement.specs.Memory.{has}
use Rattle.replacement.specs.ByTime.{more_recent}

-- segment i goes in the step at place t: the memory has it before the step and not after it
pub record Goes (m : ℕ → List ℕ) (t i : ℕ) : Type 0 where
  pub before : has i (m t) ≡ true
  pub after : has i (m (suc t)) ≡ false

-- a full memory misses in the step at place t: a segment is touched that it does not have, and all its frames are in use
pub record FullMiss (T : Trace) (m : ℕ → List ℕ) (k t : ℕ) : Type 0 where
  pub some_frame : 1 ≤ k
  pub touches : entry T t < segs T
  pub misses : has (entry T t) (m t) ≡ false
  pub full : length (m t) ≡ k

-- the step at place t: the least recently used goes
pub record LeastRecentGoes (T : Trace) (m : ℕ → List ℕ) (k t : ℕ) : Type 0 where
  -- where a full memory misses, a segment goes, and nowhere else
  pub one_goes : FullMiss T m k t → (i : ℕ) × Goes m t i
  pub goes_only : (i : ℕ) → Goes m t i → FullMiss T m k t
  -- every other one in the memory was touched more recently than the one that goes
  pub least-recent : (i j : ℕ) → Goes m t i → has j (m t) ≡ true → (j ≡ i → ⊥) → more_recent T t j i ≡ true
  -- and stays
  pub others_stay : (i j : ℕ) → Goes m t i → has j (m t) ≡ true → (j ≡ i → ⊥) → has j (m (suc t)) ≡ true
  -- the segment touched is in the memory after the step, and no other one enters
  pub enters : (i : ℕ) → 1 ≤ k → touched T t i ≡ true → has i (m (suc t)) ≡ true
  pub only_touched : (i : ℕ) → has i (m t) ≡ false → has i (m (suc t)) ≡ true → touched T t i ≡ true
