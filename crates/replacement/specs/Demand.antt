-- What requests F-9 and F-10 ask of the definitions, as one statement on a run.
use Rattle.std.specs.Prelude.{ℕ, ◌*◌, ◌≤◌, ◌≡◌}
use Rattle.model.specs.Traces.{Trace, steps, refs_of}
use Rattle.replacement.specs.ByTime.{time_distance, among_recent}
use Rattle.replacement.specs.Memory.{has, memory, lru_simulated, simulated_curve}
use Rattle.replacement.specs.Recency.{distance, lru_misses, lru_curve, entries_looked, distinct}
use Rattle.replacement.specs.Replacing.{LeastRecentGoes}

pub record LruDemand (T : Trace) : Type 0 where
  -- by distances and by simulation the misses are the same, for every number of frames, and so are the two lists
  pub agree : (k : ℕ) → lru_misses T k ≡ lru_simulated T k
  pub curves_agree : lru_curve T ≡ simulated_curve T
  -- the distance of a touch is 1 + the distinct other segments touched since the segment's last touch
  pub by-time : (t i : ℕ) → distance T t i ≡ time_distance T t i
  -- the memory of k frames has the k most recently touched segments, and where it is full the least recently used goes
  pub most_recent : (k t i : ℕ) → has i (memory T k t) ≡ among_recent T k t i
  pub least_recent_goes : (k t : ℕ) → LeastRecentGoes T (memory T k) k t
  -- more frames never miss more often
  pub falls : (k m : ℕ) → k ≤ m → lru_misses T m ≤ lru_misses T k
  -- with a frame for each distinct segment, each of these misses once
  pub least : (k : ℕ) → distinct T (steps T) ≤ k → lru_misses T k ≡ distinct T (steps T)
  -- the entries looked at never exceed refs × the distinct segments
  pub bounded : entries_looked T ≤ refs_of T * distinct T (steps T)
