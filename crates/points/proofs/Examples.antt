-- Operating points of eleven runs, worked out apart from the definitions, in one table; a single proof goes over it, computed from the
-- definitions.
use Prim.Native.Nat.{ℕ}
use mathlib.Core.Path.{◌≡◌, refl}
use mathlib.Core.Bool.{Bool, true, false, ◌&&◌}
use mathlib.Core.List.{List, [], ◌∷◌}
use lib.Dec.{eqb}
use Rattle.model.specs.Sheets.{listed, run_of}
use Rattle.model.specs.Sums.{sum}
use Rattle.model.specs.Traces.{Trace, touching, later, unreferenced}
use Rattle.model.specs.Figures.{misses, volume, load, optmem, kept, ref_cost}
use Rattle.model.specs.declared.Kind.TheVariants.{Time, Space}
use Rattle.points.specs.Points.{insert, ratios, thresholds, point_numbers, operating_points}

equal : List ℕ → List ℕ → Bool
equal [] [] = true
equal [] (y ∷ ys) = false
equal (x ∷ xs) [] = false
equal (x ∷ xs) (y ∷ ys) = eqb x y && equal xs ys

-- a run and its points, of each R, w, optmem, load
record Example : Type 0 where
  trace : Trace
  points : List ℕ

infix 70 ◌gives◌
◌gives◌ : Trace → List ℕ → Example
T gives ps = record { trace = T; points = ps }

all_hold : List Example → Bool
all_hold [] = true
all_hold (e ∷ es) = equal (operating_points e.trace) e.points && all_hold es

-- the number of segments is the entry of a step that touches nothing
table : List Example
table =
    -- every segment is warm
    (run_of Space 1 (4 ∷ 3 ∷ 4 ∷ 4 ∷ []) (0 ∷ 1 ∷ 2 ∷ 3 ∷ []) (1 ∷ 3 ∷ 2 ∷ 2 ∷ 2 ∷ 1 ∷ [])
    gives (0 ∷ 4 ∷ 22 ∷ 14 ∷ 4 ∷ 5 ∷ 26 ∷ 9 ∷ 8 ∷ 5 ∷ 34 ∷ 4 ∷ 12 ∷ 4 ∷ 46 ∷ 0 ∷ []))
    -- steps that touch nothing
    ∷ (run_of Time 0 (2 ∷ 2 ∷ []) [] (2 ∷ 0 ∷ 1 ∷ 2 ∷ 0 ∷ 2 ∷ 1 ∷ 1 ∷ []) gives (0 ∷ 1 ∷ 5 ∷ 4 ∷ 2 ∷ 1 ∷ 7 ∷ 3 ∷ 3 ∷ 1 ∷ 10 ∷ 2 ∷ []))
    -- both
    ∷ (run_of Space 2 (3 ∷ 3 ∷ 4 ∷ []) (1 ∷ []) (1 ∷ 1 ∷ 3 ∷ 3 ∷ 1 ∷ 3 ∷ 1 ∷ []) gives
    (0 ∷ 7 ∷ 12 ∷ 14 ∷ 3 ∷ 7 ∷ 15 ∷ 7 ∷ 6 ∷ 7 ∷ 21 ∷ 0 ∷ []))
    ∷ (run_of Space 0 (3 ∷ 4 ∷ 2 ∷ []) (1 ∷ 2 ∷ []) (3 ∷ 3 ∷ 3 ∷ 1 ∷ 3 ∷ 1 ∷ 3 ∷ []) gives
    (0 ∷ 1 ∷ 8 ∷ 2 ∷ 4 ∷ 1 ∷ 12 ∷ 1 ∷ 12 ∷ 1 ∷ 24 ∷ 0 ∷ []))
    ∷ (run_of Space 2 (2 ∷ 2 ∷ 1 ∷ []) (0 ∷ 1 ∷ []) (3 ∷ 1 ∷ 3 ∷ 1 ∷ 3 ∷ 0 ∷ []) gives
    (0 ∷ 1 ∷ 6 ∷ 15 ∷ 2 ∷ 5 ∷ 10 ∷ 5 ∷ 10 ∷ 5 ∷ 20 ∷ 0 ∷ []))
    ∷ (run_of Space 1 (2 ∷ 2 ∷ 1 ∷ []) (0 ∷ []) (2 ∷ 3 ∷ 0 ∷ 3 ∷ 0 ∷ 3 ∷ 1 ∷ 3 ∷ 3 ∷ []) gives
    (0 ∷ 1 ∷ 7 ∷ 11 ∷ 2 ∷ 3 ∷ 9 ∷ 8 ∷ 4 ∷ 3 ∷ 13 ∷ 5 ∷ []))
    -- no reuse, and no step
    ∷ (run_of Space 2 (3 ∷ 1 ∷ 4 ∷ []) (1 ∷ []) (3 ∷ 2 ∷ 0 ∷ 3 ∷ []) gives (0 ∷ 1 ∷ 7 ∷ 16 ∷ []))
    ∷ (run_of Space 3 (4 ∷ 1 ∷ []) [] [] gives (0 ∷ 1 ∷ 0 ∷ 0 ∷ []))
    -- two reuses of equal ratio whose R and w differ
    ∷ (run_of Time 1 (1 ∷ 3 ∷ []) [] (1 ∷ 2 ∷ 2 ∷ 1 ∷ 0 ∷ 2 ∷ 0 ∷ []) gives (0 ∷ 1 ∷ 4 ∷ 12 ∷ 2 ∷ 4 ∷ 7 ∷ 6 ∷ []))
    ∷ (run_of Time 1 (1 ∷ 3 ∷ []) [] (0 ∷ 2 ∷ 0 ∷ 1 ∷ 2 ∷ 2 ∷ 1 ∷ 1 ∷ []) gives (0 ∷ 4 ∷ 5 ∷ 12 ∷ 1 ∷ 2 ∷ 8 ∷ 6 ∷ []))
    ∷ (run_of Space 1 (2 ∷ 1 ∷ 3 ∷ []) (2 ∷ []) (2 ∷ 0 ∷ 1 ∷ 0 ∷ 3 ∷ 1 ∷ 0 ∷ 2 ∷ 1 ∷ [])
    gives (0 ∷ 4 ∷ 15 ∷ 19 ∷ 2 ∷ 3 ∷ 17 ∷ 16 ∷ 2 ∷ 2 ∷ 21 ∷ 12 ∷ 4 ∷ 3 ∷ 25 ∷ 9 ∷ 18 ∷ 4 ∷ 43 ∷ 5 ∷ []))
    ∷ []

table-holds : all_hold table ≡ true
unfolding all_hold table equal listed ◌gives◌ insert ratios thresholds point_numbers operating_points sum touching later unreferenced misses
    volume load optmem kept ref_cost
table-holds = refl
