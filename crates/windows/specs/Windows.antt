-- The window recursion of document 000 (request F-12): the working set's occupancy at every window. The value at the window n + 1 stands
-- at place n.
use Rattle.std.specs.Prelude.{ℕ, zero, suc, ◌+◌, ◌<◌, ◌≡◌, cond, List, [], ltb}
use Rattle.model.specs.Sheets.{run_of}
use Rattle.model.specs.Sums.{tabulate}
use Rattle.model.specs.Traces.{Trace, segs, steps, size_of, over_touches, refs_of, over_segments, unreferenced}
use Rattle.model.specs.Figures.{of_time}
use Rattle.model.specs.declared.Kind.TheVariants.{Time}

-- f of the unreferenced time, added over all reuses and end intervals. An end interval is as if the segment were touched once more
-- after the last step
unfoldable pub over_intervals : Trace → (ℕ → ℕ) → ℕ
over_intervals T f =
    over_touches T (λ t i. of_time f (unreferenced T t i)) + over_segments T (λ i. of_time f (unreferenced T (steps T) i))

-- how many reuses and end intervals are longer than n steps: u > n, where u is one more than the unreferenced time
unfoldable pub longer_than : Trace → ℕ → ℕ
longer_than T n = over_intervals T (λ k. cond (ltb n (suc k)) 1 0)

-- at the window 1 it is refs, and the next after the window n + 1 adds the reuses and end intervals longer than n + 1 steps
unfoldable pub window_at : Trace → ℕ → ℕ
window_at T zero = refs_of T
window_at T (suc n) = window_at T n + longer_than T (suc n)

-- the values at the windows 1, 2, .., steps
unfoldable pub window_list : Trace → List ℕ
window_list T = tabulate (steps T) (window_at T)

-- the run of kind time with a = 0, these sizes and entries, and no warm segment
abbrev pub window_run : List ℕ → List ℕ → Trace
window_run sizes refs = run_of Time 0 sizes [] refs

-- the runs that the request speaks of: kind time, a = 0, every size 1. Of the segments that count as touched before step 1 nothing is
-- asked here
pub record Windowed (T : Trace) : Type 0 where
  pub time : T.kind ≡ Time
  pub no_weight : T.a ≡ 0
  pub unit_size : (i : ℕ) → i < segs T → size_of T i ≡ 1
