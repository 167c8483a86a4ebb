-- Runs with their misses, entries looked at, distinct segments and touches, in one table; a single proof goes over it, computed from the
-- definitions.
use Prim.Native.Nat.{ℕ}
use mathlib.Core.Path.{◌≡◌, refl}
use mathlib.Core.Bool.{Bool, true, false, ◌&&◌}
use mathlib.Core.List.{List, [], ◌∷◌}
use mathlib.Core.Option.{Option, none, some}
use lib.Dec.{eqb}
use lib.ListN.{replicate}
use Rattle.model.specs.Sheets.{listed, run_of}
use Rattle.model.specs.Sums.{sum, tabulate}
use Rattle.model.specs.Traces.{Trace, steps, entry, touching, refs_by, refs_of, later, unreferenced}
use Rattle.model.specs.declared.Kind.TheVariants.{Time}
use Rattle.replacement.specs.ByTime.{sooner, newer_than, time_distance}
use Rattle.replacement.specs.Memory.{has, least_recent, replaced, swapped, reloaded, memory, lru_simulated, simulated_curve}
use Rattle.replacement.specs.Orders.{place_of, without}
use Rattle.replacement.specs.Recency.{recency, distance, lru_misses, lru_curve, entries_looked, distinct}

-- a run, its misses with 1, 2, .., segs frames, the entries looked at, its distinct segments and its touches
pub record Example : Type 0 where
  pub run : Trace
  pub misses : List ℕ
  pub looked : ℕ
  pub segments : ℕ
  pub touches : ℕ

-- the run of that many segments of size 1 and these entries of its steps
abbrev of : ℕ → List ℕ → List ℕ → ℕ → ℕ → ℕ → Example
of segs refs misses looked segments touches =
    record { run = run_of Time 0 (replicate segs 1) [] refs; misses = misses; looked = looked; segments = segments; touches = touches }

-- two lists are the same
same : List ℕ → List ℕ → Bool
same [] [] = true
same [] (y ∷ ys) = false
same (x ∷ xs) [] = false
same (x ∷ xs) (y ∷ ys) = eqb x y && same xs ys

-- every example of the list is true
pub all_hold : List Example → Bool
all_hold [] = true
all_hold (e ∷ es) =
    same (lru_curve e.run) e.misses
    && (same (simulated_curve e.run) e.misses
    && (eqb (entries_looked e.run) e.looked
    && (eqb (distinct e.run (steps e.run)) e.segments && (eqb (refs_of e.run) e.touches && all_hold es))))

-- the reference string of document 002; the classic one on which first-in-first-out replacement misses 9 times with 3 frames and 10 times
-- with 4; a cycle; idle steps, marked by 4 and more; a longer one, 6 marking an idle step; one segment alone; no steps; idle steps alone
pub table : List Example
table =
    of 5 (4 ∷ 2 ∷ 1 ∷ 4 ∷ 0 ∷ 1 ∷ 3 ∷ 2 ∷ 3 ∷ 4 ∷ 1 ∷ 2 ∷ 1 ∷ 1 ∷ []) (13 ∷ 11 ∷ 9 ∷ 7 ∷ 5 ∷ []) 39 5 14
    ∷ of 5 (0 ∷ 1 ∷ 2 ∷ 3 ∷ 0 ∷ 1 ∷ 4 ∷ 0 ∷ 1 ∷ 2 ∷ 3 ∷ 4 ∷ []) (12 ∷ 12 ∷ 10 ∷ 8 ∷ 5 ∷ []) 39 5 12
    ∷ of 4 (0 ∷ 1 ∷ 2 ∷ 3 ∷ 0 ∷ 1 ∷ 2 ∷ 3 ∷ 0 ∷ 1 ∷ 2 ∷ 3 ∷ []) (12 ∷ 12 ∷ 12 ∷ 4 ∷ []) 38 4 12
    ∷ of 4 (4 ∷ 2 ∷ 2 ∷ 4 ∷ 0 ∷ 2 ∷ 7 ∷ 0 ∷ 1 ∷ 0 ∷ 2 ∷ 4 ∷ 1 ∷ []) (8 ∷ 5 ∷ 3 ∷ 3 ∷ []) 16 3 9
    ∷ of 6
    (1 ∷ 1 ∷ 5 ∷ 3 ∷ 6 ∷ 2 ∷ 4 ∷ 5 ∷ 2 ∷ 4 ∷ 0 ∷ 4 ∷ 1 ∷ 5 ∷ 0 ∷ 6 ∷ 4 ∷ 4 ∷ 5 ∷ 4 ∷ 2 ∷ 4 ∷ 1 ∷ 4 ∷ 4 ∷ 3 ∷ 4 ∷ 2 ∷ 4 ∷ 2 ∷ [])
    (25 ∷ 18 ∷ 15 ∷ 11 ∷ 8 ∷ 6 ∷ []) 84 6 28
    ∷ of 1 (0 ∷ 0 ∷ 0 ∷ []) (1 ∷ []) 2 1 3
    ∷ of 3 [] (0 ∷ 0 ∷ 0 ∷ []) 0 0 0
    ∷ of 2 (5 ∷ 5 ∷ []) (0 ∷ 0 ∷ []) 0 0 0
    ∷ []

pub table-holds : all_hold table ≡ true
unfolding all_hold same table listed tabulate sum touching later unreferenced has place_of without recency distance lru_misses
    entries_looked distinct refs_by reloaded memory lru_simulated sooner least_recent replaced swapped
table-holds = refl

-- ---- by time

-- a distance as a number, 0 for none
pub number_of : Option ℕ → ℕ
number_of none = 0
number_of (some p) = p

-- the distances by time of the classic string
pub classic : Trace
classic = run_of Time 0 (replicate 5 1) [] (0 ∷ 1 ∷ 2 ∷ 3 ∷ 0 ∷ 1 ∷ 4 ∷ 0 ∷ 1 ∷ 2 ∷ 3 ∷ 4 ∷ [])

pub times-hold : tabulate 12 (λ t. number_of (time_distance classic t (entry classic t)))
    ≡ 0 ∷ 0 ∷ 0 ∷ 0 ∷ 4 ∷ 4 ∷ 0 ∷ 3 ∷ 3 ∷ 5 ∷ 5 ∷ 5 ∷ []
unfolding number_of classic listed tabulate sum later unreferenced sooner newer_than time_distance
times-hold = refl

-- a warm segment has a time before step 1 and no place in the list: there the two differ
pub warmed : Trace
warmed = run_of Time 0 (replicate 1 1) (0 ∷ []) (0 ∷ [])

pub warm-differs : (distance warmed 0 0 ≡ none) × (time_distance warmed 0 0 ≡ some 1)
unfolding warmed listed sum unreferenced sooner newer_than time_distance place_of recency distance
warm-differs = (refl, refl)
