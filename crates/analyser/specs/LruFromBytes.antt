-- What holds of the misses of least-recently-used replacement that are given for a run of bytes (request F-9), and of the entries looked at
-- (request F-10).
use Rattle.std.specs.Prelude.{ℕ, ◌-◌, ◌*◌, ◌≤◌, ◌≡◌, List, length, get_or, Ok, Err, IsOk}
use Rattle.model.specs.Places.{answer_for}
use Rattle.model.specs.Sheets.{SheetValue, trace_of}
use Rattle.model.specs.Traces.{steps, refs_of, segs}
use Rattle.model.specs.declared.Refusal.{Refusal}
use Rattle.sheet.specs.Reading.{read_sheet, accepted}
use Rattle.replacement.specs.Answers.{ones_verdict}
use Rattle.replacement.specs.Demand.{LruDemand}
use Rattle.replacement.specs.Memory.{lru_simulated}
use Rattle.replacement.specs.Recency.{lru_misses, entries_looked, distinct}
use Rattle.analyser.specs.Curves.{lru_result, lru_plain_result, lru_looked}

-- what holds of the misses that are given for a sheet v
pub record Misses (v : SheetValue) (list : List ℕ) : Type 0 where
  -- every size is 1 and no segment is warm
  pub verdict : ones_verdict v.head.sizes (length v.head.warm) ≡ (Ok tt)
  -- a number for each number of frames from 1 to segs: the misses with k frames, by distances and by simulation
  pub counted : length list ≡ segs (trace_of v)
  pub by_distances : (k : ℕ) → 1 ≤ k → k ≤ segs (trace_of v) → get_or list (k - 1) 0 ≡ lru_misses (trace_of v) k
  pub by_simulation : (k : ℕ) → 1 ≤ k → k ≤ segs (trace_of v) → get_or list (k - 1) 0 ≡ lru_simulated (trace_of v) k
  -- what least recently used means, by time: a memory of k frames has the k segments touched most recently, and where it is full the one
  -- that was touched longest ago goes
  pub demand : LruDemand (trace_of v)
  -- more frames never miss more often
  pub falls : (k m : ℕ) → 1 ≤ k → k ≤ m → m ≤ segs (trace_of v) → get_or list (m - 1) 0 ≤ get_or list (k - 1) 0
  -- from as many frames as segments are touched on, each of these misses once
  pub least : (k : ℕ) → 1 ≤ k → distinct (trace_of v) (steps (trace_of v)) ≤ k → k ≤ segs (trace_of v)
      → get_or list (k - 1) 0 ≡ distinct (trace_of v) (steps (trace_of v))

-- what holds of the calls on every run of bytes s
pub record LruFromBytes (s : List ℕ) : Type 0 where
  -- both engines give the same list, or the same refusal
  pub same : lru_result s ≡ lru_plain_result s
  pub misses : (v : SheetValue) → read_sheet s ≡ accepted v → (list : List ℕ) → lru_result s ≡ Ok list → Misses v list
  -- the entries looked at are those of the definition where the list is written, and none where it is not
  pub looked : (v : SheetValue) → read_sheet s ≡ accepted v → (place : List ℕ) → IsOk (answer_for (lru_result s) place)
      → lru_looked s place ≡ entries_looked (trace_of v)
  pub none_looked : (why : Refusal) (place : List ℕ) → answer_for (lru_result s) place ≡ Err why → lru_looked s place ≡ 0
  -- they never exceed refs × the distinct segments
  pub bounded : (v : SheetValue) → read_sheet s ≡ accepted v → (place : List ℕ)
      → lru_looked s place ≤ refs_of (trace_of v) * distinct (trace_of v) (steps (trace_of v))
