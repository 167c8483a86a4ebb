-- Table 2 of document 000, the address trace of its Figure 7, and further runs worked by hand, in one table; a single proof goes over it,
-- computed from the definitions.
use Prim.Native.Nat.{ℕ}
use mathlib.Core.Path.{◌≡◌, refl}
use mathlib.Core.List.{List, [], ◌∷◌}
use lib.Dec.{eqb}
use lib.ListN.{replicate}
use Rattle.model.specs.Sums.{sum, tabulate}
use Rattle.model.specs.Traces.{Trace, touching, refs_by, later, unreferenced}
use Rattle.model.specs.Sheets.{listed}
use Rattle.model.specs.declared.Kind.TheVariants.{Time}
use Rattle.windows.specs.Windows.{window_run, over_intervals, longer_than, window_at, window_list}

-- a run of kind time with a = 0 and so many segments of size 1
abbrev pub unit_run : ℕ → List ℕ → Trace
unit_run n refs = window_run (replicate n 1) refs

-- the windows of the runs of the table
abbrev pub window_lists : List Trace → List (List ℕ)
window_lists [] = []
window_lists (T ∷ Ts) = window_list T ∷ window_lists Ts

-- Figure 7, whose Table 2 has the windows 1 to 14; one touch in three steps, the others touching nothing; no step; and a run whose
-- segment 1 counts as touched before step 1
abbrev pub runs : List Trace
runs =
    unit_run 6 (1 ∷ 2 ∷ 3 ∷ 4 ∷ 1 ∷ 2 ∷ 4 ∷ 4 ∷ 1 ∷ 2 ∷ 1 ∷ 5 ∷ 4 ∷ 3 ∷ 1 ∷ [])
    ∷ unit_run 2 (0 ∷ 2 ∷ 2 ∷ [])
    ∷ unit_run 1 []
    ∷ record { kind = Time; a = 0; sizes = 1 ∷ 1 ∷ []; start = eqb 1; entries = 0 ∷ 1 ∷ 1 ∷ [] }
    ∷ []

pub each : window_lists runs
    ≡ (15 ∷ 28 ∷ 39 ∷ 48 ∷ 51 ∷ 53 ∷ 54 ∷ 55 ∷ 56 ∷ 57 ∷ 58 ∷ 58 ∷ 58 ∷ 58 ∷ 58 ∷ [])
    ∷ (1 ∷ 2 ∷ 3 ∷ [])
    ∷ []
    ∷ (3 ∷ 5 ∷ 6 ∷ [])
    ∷ []
unfolding listed window_list window_at refs_by longer_than over_intervals sum tabulate touching later unreferenced
each = refl
