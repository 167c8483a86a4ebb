-- The examples P1 to P10 of document 01, and further ones worked by hand, in one table; a single proof goes over it, computed from
-- the definitions.
use Prim.Native.Nat.{ℕ, suc, ◌/◌, ◌%◌}
use mathlib.Core.Path.{◌≡◌, refl}
use mathlib.Core.Bool.{Bool, true, ◌&&◌, false≢true}
use mathlib.Core.List.{List, [], ◌∷◌, ◌++◌}
use lib.ListN.{get_or, replicate}
use lib.Dec.{eqb, lit<}
use lib.IntN.{ℤ, pos, negsuc}
use Rattle.model.specs.Sums.{sum, tabulate}
use Rattle.model.specs.Traces.{Trace, entry, touching, later, unreferenced, refs_by, refs_of, ref_place, place_of}
use Rattle.model.specs.Figures.{misses, volume, load, optmem, opttotal, optocc, wsmem, wsocc, mean, kept, margin_at, ref_cost}
use Rattle.model.specs.Figures.{ref_volume, smaller, wsspace}
use Rattle.model.specs.Rows.{row_figures}
use Rattle.model.specs.Schedules.{Permitted, held, schedule_memory, schedule_load, schedule_total, optimal_schedule, next_kept}
use Rattle.model.specs.Schedules.{optimal_held, optimal_byte}
use Rattle.model.specs.Sheets.{idle, listed, run_of}
use Rattle.model.specs.declared.Kind.{Kind}
use Rattle.model.specs.declared.Kind.TheVariants.{Time, Space}

-- what an example speaks of: a figure, by how much the margin of the touch in the step at a place is above 0 or below it, a byte of
-- the optimal schedule, or the price of a schedule given by the first two bytes of each step as one number
pub data Item : Type 0 where
  Misses Volume Load Optmem Opttotal Optocc Wsmem Wsocc Mean : Item
  References : Item
  MarginAbove MarginBelow ScheduleByte PlaceOf : ℕ → Item
  MemoryOf LoadOf TotalOf : List ℕ → Item

-- 32 bytes for each step, all but the first two of them 0: bit i of a step's number says whether segment i is held
pub bytes_of : List ℕ → List ℕ
bytes_of [] = []
bytes_of (n ∷ ns) = (n % 256 ∷ n / 256 ∷ replicate 30 0) ++ bytes_of ns

-- by how much a margin is above 0, and below it
above : ℤ → ℕ
above (pos n) = n
above (negsuc n) = 0

below : ℤ → ℕ
below (pos n) = 0
below (negsuc n) = suc n

-- its value by the definitions
value_of : Item → Trace → ℕ → ℕ → ℕ
value_of Misses T h d = misses T h d
value_of Volume T h d = volume T h d
value_of Load T h d = load T h d
value_of Optmem T h d = optmem T h d
value_of Opttotal T h d = opttotal T h d
value_of Optocc T h d = optocc T h d
value_of Wsmem T h d = wsmem T h d
value_of Wsocc T h d = wsocc T h d
value_of Mean T h d = mean T h d
value_of References T h d = refs_of T
value_of (PlaceOf n) T h d = place_of T n
value_of (MarginAbove t) T h d = above (margin_at T h d t (entry T t))
value_of (MarginBelow t) T h d = below (margin_at T h d t (entry T t))
value_of (ScheduleByte j) T h d = get_or (optimal_schedule T h d) j 0
value_of (MemoryOf bs) T h d = schedule_memory T (bytes_of bs)
value_of (LoadOf bs) T h d = schedule_load T (bytes_of bs)
value_of (TotalOf bs) T h d = schedule_total T h d (bytes_of bs)

-- an item and the number that it has
pub record Claim : Type 0 where
  pub item : Item
  pub number : ℕ

infix 70 ◌is◌
◌is◌ : Item → ℕ → Claim
i is n = record { item = i; number = n }

-- a run, a row h/d and what they give
pub record Example : Type 0 where
  pub run : Trace
  pub h : ℕ
  pub d : ℕ
  pub gives : List Claim

abbrev at : Trace → ℕ → ℕ → List Claim → Example
at run h d gives = record { run = run; h = h; d = d; gives = gives }

-- every claim of the list is true
claims : Trace → ℕ → ℕ → List Claim → Bool
claims T h d [] = true
claims T h d (c ∷ cs) = eqb (value_of c.item T h d) c.number && claims T h d cs

-- every example of the list is true
pub all_hold : List Example → Bool
all_hold [] = true
all_hold (e ∷ es) = claims e.run e.h e.d e.gives && all_hold es

-- the run of the listing
listing : Trace
listing = run_of Space 1 (1 ∷ 3 ∷ []) [] (0 ∷ 1 ∷ 0 ∷ 1 ∷ 1 ∷ 0 ∷ [])

-- the reference string of document 002, segments A to E numbered from 0
paper : Kind → Trace
paper k = run_of k 0 (1 ∷ 2 ∷ 3 ∷ 4 ∷ 5 ∷ []) [] (4 ∷ 2 ∷ 1 ∷ 4 ∷ 0 ∷ 1 ∷ 3 ∷ 2 ∷ 3 ∷ 4 ∷ 1 ∷ 2 ∷ 1 ∷ 1 ∷ [])

-- two segments, the second of which stays untouched and so has no end interval
untouched : Trace
untouched = run_of Space 0 (1 ∷ 1 ∷ []) [] (0 ∷ 0 ∷ [])

-- one reference with a = 3: load is 1 + 3 × 2
weighted : Trace
weighted = run_of Time 3 (2 ∷ []) [] (0 ∷ [])

-- wsmem is 3 + 1 and wsocc is 4 + 1, so that the mean is 5,000 / 3
rounded : Trace
rounded = run_of Time 0 (1 ∷ 2 ∷ []) [] (0 ∷ 0 ∷ 1 ∷ [])

-- segment 0 is touched in steps 1 and 4, segment 1 between
pub between : Trace
between = run_of Time 0 (1 ∷ 1 ∷ []) [] (0 ∷ 1 ∷ 1 ∷ 0 ∷ [])

-- kind time with a > 0 and reuses: w is 2 and 4; the row 1/2 keeps the reuses of steps 3 to 5 (R = 1, 1, 0) and not that of step 6
-- (R = 2), and segment 1 has an end interval of R = 1. wsocc is 2 × 12 + (2 + 6 + 0 + 2) + 6
timed : Trace
timed = run_of Time 1 (1 ∷ 3 ∷ []) [] (0 ∷ 1 ∷ 0 ∷ 1 ∷ 1 ∷ 0 ∷ [])

-- ten segments of size 1, of which segment 9 stands in the second byte of a step; at the row 1/1 its reuse is kept (R = w = 1)
distant : Trace
distant = run_of Time 0 (replicate 10 1) [] (9 ∷ 0 ∷ 9 ∷ [])

-- the listing's run with two steps without a touch, the third and the eighth (F-3): the reuses of segment 0 have R = 2 and 2, those of
-- segment 1 R = 6 and 0, the end intervals R = 1 and 6, and the mean is over 8 steps
idling : Trace
idling = run_of Space 1 (1 ∷ 3 ∷ []) [] (0 ∷ 1 ∷ idle ∷ 0 ∷ 1 ∷ 1 ∷ 0 ∷ idle ∷ [])

-- the listing's run with segment 1 warm (F-6): its first touch, in step 2, is a reuse with R = 3; the row 1/1 keeps it, the row 1/2 does
-- not
warmed : Trace
warmed = run_of Space 1 (1 ∷ 3 ∷ []) (1 ∷ []) (0 ∷ 1 ∷ 0 ∷ 1 ∷ 1 ∷ 0 ∷ [])

-- and with both segments warm: the first touch in step 1 is a reuse with R = 0
both_warm : Trace
both_warm = run_of Space 1 (1 ∷ 3 ∷ []) (0 ∷ 1 ∷ []) (0 ∷ 1 ∷ 0 ∷ 1 ∷ 1 ∷ 0 ∷ [])

-- a warm segment that is never touched: its end interval runs from step 0, so R = 2 after two steps
lingering : Trace
lingering = run_of Space 0 (1 ∷ 1 ∷ []) (1 ∷ []) (0 ∷ 0 ∷ [])

-- P10 with idle steps: three of them and no warm segment
quiet : Trace
quiet = run_of Time 3 (7 ∷ 2 ∷ []) [] (idle ∷ idle ∷ idle ∷ [])

-- a warm segment and no references: nothing after 0 steps, R = 2 after two idle ones, and w is 22
resting : List ℕ → Trace
resting refs = run_of Time 3 (7 ∷ 2 ∷ []) (0 ∷ []) refs

-- P1 to P10, then the further ones
pub table : List Example
table =
    at listing 1 2 (Misses is 4 ∷ Volume is 8 ∷ Load is 12 ∷ Optmem is 13 ∷ Opttotal is 38 ∷ Optocc is 13 ∷ Wsmem is 36 ∷ Wsocc is 36 ∷
    Mean is 3000 ∷ [])
    ∷ at listing 1 1 (Misses is 2 ∷ Volume is 4 ∷ Load is 6 ∷ Optmem is 18 ∷ Opttotal is 24 ∷ Optocc is 18 ∷ Wsmem is 21 ∷ Wsocc is 21 ∷
    Mean is 3500 ∷ [])
    ∷ at listing 1 2 (ScheduleByte 0 is 1 ∷ ScheduleByte 32 is 3 ∷ ScheduleByte 64 is 1 ∷ ScheduleByte 96 is 2 ∷ ScheduleByte 128 is 2 ∷
    ScheduleByte 160 is 1 ∷ [])
    ∷ at (paper Space) 0 1 (Misses is 13 ∷ Volume is 41 ∷ Optmem is 43 ∷ Wsmem is 43 ∷ [])
    ∷ at (paper Space) 4 1 (Misses is 10 ∷ Volume is 33 ∷ Optmem is 53 ∷ Wsmem is 89 ∷ [])
    ∷ at (paper Space) 10 1 (Misses is 7 ∷ Volume is 23 ∷ Optmem is 80 ∷ Wsmem is 135 ∷ [])
    ∷ at (paper Space) 25 1 (Misses is 5 ∷ Volume is 15 ∷ Optmem is 120 ∷ Wsmem is 175 ∷ [])
    ∷ at (paper Time) 2 1 (Misses is 9 ∷ Volume is 28 ∷ Optocc is 63 ∷ Wsocc is 115 ∷ [])
    ∷ at (paper Time) 5 1 (Misses is 5 ∷ Volume is 15 ∷ Optocc is 120 ∷ Wsocc is 171 ∷ [])
    ∷ at (run_of Time 3 (7 ∷ 2 ∷ []) [] []) 5 2
    (Misses is 0 ∷ Volume is 0 ∷ Load is 0 ∷ Optmem is 0 ∷ Opttotal is 0 ∷ Optocc is 0 ∷ Wsmem is 0 ∷ Wsocc is 0 ∷ Mean is 0 ∷ [])
    ∷ at quiet 5 2
    (Misses is 0 ∷ Volume is 0 ∷ Load is 0 ∷ Optmem is 0 ∷ Opttotal is 0 ∷ Optocc is 0 ∷ Wsmem is 0 ∷ Wsocc is 0 ∷ Mean is 0 ∷ [])
    ∷ at untouched 5 1 (Misses is 1 ∷ Volume is 1 ∷ Load is 1 ∷ Optmem is 2 ∷ Opttotal is 7 ∷ Optocc is 2 ∷ Wsmem is 2 ∷ Wsocc is 2 ∷
    Mean is 1000 ∷ [])
    ∷ at weighted 1 1 (Misses is 1 ∷ Volume is 2 ∷ Load is 7 ∷ Optmem is 1 ∷ Opttotal is 8 ∷ Optocc is 2 ∷ Wsmem is 1 ∷ Wsocc is 2 ∷ Mean
    is 2000 ∷ [])
    ∷ at rounded 1 1 (Misses is 2 ∷ Volume is 3 ∷ Load is 2 ∷ Optmem is 3 ∷ Opttotal is 5 ∷ Optocc is 4 ∷ Wsmem is 4 ∷ Wsocc is 5 ∷ Mean
    is 1666 ∷ [])
    ∷ at timed 1 2 (Misses is 3 ∷ Volume is 5 ∷ Load is 8 ∷ Optmem is 8 ∷ Opttotal is 24 ∷ Optocc is 16 ∷ Wsmem is 20 ∷ Wsocc is 40 ∷
    Mean is 3333 ∷ [])
    ∷ at listing 1 2 (MarginAbove 2 is 0 ∷ MarginBelow 2 is 0 ∷ MarginAbove 3 is 0 ∷ MarginBelow 3 is 2 ∷ MarginAbove 4 is 4 ∷
    MarginBelow 4 is 0 ∷ [])
    ∷ at timed 1 2 (MarginAbove 3 is 2 ∷ MarginBelow 3 is 0 ∷ MarginAbove 5 is 0 ∷ MarginBelow 5 is 2 ∷ [])
    ∷ at distant 1 1 (ScheduleByte 0 is 0 ∷ ScheduleByte 1 is 2 ∷ ScheduleByte 32 is 1 ∷ ScheduleByte 33 is 2 ∷ ScheduleByte 64 is 0 ∷
    ScheduleByte 65 is 2 ∷ [])
    ∷ at distant 1 1 (MemoryOf (512 ∷ 513 ∷ 512 ∷ []) is 4 ∷ LoadOf (512 ∷ 513 ∷ 512 ∷ []) is 2 ∷ TotalOf (512 ∷ 513 ∷ 512 ∷ []) is 6 ∷ [])
    ∷ at distant 1 1 (MemoryOf (512 ∷ 1 ∷ 512 ∷ []) is 3 ∷ LoadOf (512 ∷ 1 ∷ 512 ∷ []) is 3 ∷ TotalOf (512 ∷ 1 ∷ 512 ∷ []) is 6 ∷ [])
    ∷ at idling 1 2 (Misses is 5 ∷ Volume is 9 ∷ Load is 14 ∷ Optmem is 12 ∷ Opttotal is 38 ∷ Optocc is 12 ∷ Wsmem is 38 ∷ Wsocc is 38 ∷
    Mean is 2375 ∷ [])
    ∷ at idling 1 1 (Misses is 3 ∷ Volume is 7 ∷ Load is 10 ∷ Optmem is 16 ∷ Opttotal is 26 ∷ Optocc is 16 ∷ Wsmem is 25 ∷ Wsocc is 25 ∷
    Mean is 3125 ∷ [])
    ∷ at idling 1 1 (ScheduleByte 0 is 1 ∷ ScheduleByte 32 is 3 ∷ ScheduleByte 64 is 1 ∷ ScheduleByte 96 is 1 ∷ ScheduleByte 128 is 3 ∷
    ScheduleByte 160 is 3 ∷ ScheduleByte 192 is 1 ∷ ScheduleByte 224 is 0 ∷ [])
    ∷ at idling 1 1 (References is 6 ∷ PlaceOf 1 is 0 ∷ PlaceOf 2 is 1 ∷ PlaceOf 3 is 3 ∷ PlaceOf 6 is 6 ∷ [])
    ∷ at warmed 1 2 (Misses is 4 ∷ Volume is 8 ∷ Load is 12 ∷ Optmem is 13 ∷ Opttotal is 38 ∷ Optocc is 13 ∷ Wsmem is 40 ∷ Wsocc is 40 ∷
    Mean is 3333 ∷ [])
    ∷ at warmed 1 1 (Misses is 1 ∷ Volume is 1 ∷ Load is 2 ∷ Optmem is 21 ∷ Opttotal is 23 ∷ Optocc is 21 ∷ Wsmem is 24 ∷ Wsocc is 24 ∷
    Mean is 4000 ∷ [])
    ∷ at both_warm 1 2 (Misses is 3 ∷ Volume is 7 ∷ Load is 10 ∷ Optmem is 13 ∷ Opttotal is 36 ∷ Optocc is 13 ∷ Wsmem is 40 ∷ Wsocc is 40
    ∷ Mean is 3333 ∷ [])
    ∷ at both_warm 1 1 (Misses is 0 ∷ Volume is 0 ∷ Load is 0 ∷ Optmem is 21 ∷ Opttotal is 21 ∷ Optocc is 21 ∷ Wsmem is 24 ∷ Wsocc is 24 ∷
    Mean is 4000 ∷ [])
    ∷ at lingering 5 1 (Misses is 1 ∷ Volume is 1 ∷ Load is 1 ∷ Optmem is 2 ∷ Opttotal is 7 ∷ Optocc is 2 ∷ Wsmem is 4 ∷ Wsocc is 4 ∷
    Mean is 2000 ∷ [])
    ∷ at (resting []) 5 2
    (Misses is 0 ∷ Volume is 0 ∷ Load is 0 ∷ Optmem is 0 ∷ Opttotal is 0 ∷ Optocc is 0 ∷ Wsmem is 0 ∷ Wsocc is 0 ∷ Mean is 0 ∷ [])
    ∷ at (resting (idle ∷ idle ∷ [])) 5 2
    (Misses is 0 ∷ Volume is 0 ∷ Load is 0 ∷ Optmem is 0 ∷ Opttotal is 0 ∷ Optocc is 0 ∷ Wsmem is 4 ∷ Wsocc is 28 ∷ Mean is 7000 ∷ [])
    ∷ at warmed 1 1 (ScheduleByte 0 is 3 ∷ ScheduleByte 32 is 3 ∷ ScheduleByte 64 is 3 ∷ ScheduleByte 96 is 3 ∷ ScheduleByte 128 is 3 ∷
    ScheduleByte 160 is 1 ∷ [])
    ∷ at warmed 1 2 (ScheduleByte 0 is 1 ∷ ScheduleByte 32 is 3 ∷ ScheduleByte 64 is 1 ∷ ScheduleByte 96 is 2 ∷ ScheduleByte 128 is 2 ∷
    ScheduleByte 160 is 1 ∷ [])
    ∷ at warmed 1 1 (MemoryOf (3 ∷ 3 ∷ 3 ∷ 3 ∷ 3 ∷ 1 ∷ []) is 21 ∷ LoadOf (3 ∷ 3 ∷ 3 ∷ 3 ∷ 3 ∷ 1 ∷ []) is 2 ∷ TotalOf
    (3 ∷ 3 ∷ 3 ∷ 3 ∷ 3 ∷ 1 ∷ []) is 23 ∷ [])
    ∷ at warmed 1 1 (MarginAbove 1 is 1 ∷ MarginBelow 1 is 0 ∷ [])
    ∷ at warmed 1 2 (MarginAbove 1 is 0 ∷ MarginBelow 1 is 2 ∷ [])
    ∷ at between 3 1 (Optmem is 6 ∷ Load is 2 ∷ Opttotal is 12 ∷ [])
    ∷ at between 3 1 (MemoryOf (1 ∷ 3 ∷ 3 ∷ 1 ∷ []) is 6 ∷ LoadOf (1 ∷ 3 ∷ 3 ∷ 1 ∷ []) is 2 ∷ TotalOf (1 ∷ 3 ∷ 3 ∷ 1 ∷ []) is 12 ∷ [])
    ∷ at between 3 1 (MemoryOf (1 ∷ 2 ∷ 2 ∷ 1 ∷ []) is 4 ∷ LoadOf (1 ∷ 2 ∷ 2 ∷ 1 ∷ []) is 3 ∷ TotalOf (1 ∷ 2 ∷ 2 ∷ 1 ∷ []) is 13 ∷ [])
    ∷ at between 3 1 (TotalOf (1 ∷ 2 ∷ 3 ∷ 1 ∷ []) is 11 ∷ [])
    ∷ []

pub table-holds : all_hold table ≡ true
unfolding all_hold claims value_of bytes_of above below ◌is◌ table listing paper untouched weighted rounded between timed distant idling
    warmed both_warm lingering quiet resting held schedule_memory schedule_load schedule_total misses volume load optmem opttotal optocc
    wsmem wsocc mean optimal_schedule sum tabulate touching refs_by ref_place later unreferenced kept ref_cost ref_volume smaller wsspace
    next_kept optimal_held optimal_byte listed
table-holds = refl

-- the eleven items of `timed` at the rows 1/2 and 1/1, each in its place
timed-half : row_figures timed 1 2
    ≡ record {
      h = 1;
      d = 2;
      misses = 3;
      volume = 5;
      load = record { 0 = 8 };
      optmem = record { 0 = 8 };
      opttotal = 24;
      optocc = 16;
      wsmem = 20;
      wsocc = 40;
      mean = 3333;
    }
unfolding timed row_figures misses volume load optmem opttotal optocc wsmem wsocc mean sum touching later unreferenced kept ref_cost
    ref_volume smaller wsspace listed
timed-half = refl

timed-one : row_figures timed 1 1
    ≡ record {
      h = 1;
      d = 1;
      misses = 2;
      volume = 4;
      load = record { 0 = 6 };
      optmem = record { 0 = 10 };
      opttotal = 16;
      optocc = 18;
      wsmem = 11;
      wsocc = 21;
      mean = 3500;
    }
unfolding timed row_figures misses volume load optmem opttotal optocc wsmem wsocc mean sum touching later unreferenced kept ref_cost
    ref_volume smaller wsspace listed
timed-one = refl

-- the last schedule of the table drops segment 0 in step 2 and lets it enter again, untouched, in step 3. It would cost less than the
-- optimum, and it is not permitted
pub re-entry : Permitted between (bytes_of (1 ∷ 2 ∷ 3 ∷ 1 ∷ [])) → ⊥
unfolding between bytes_of held
re-entry p = false≢true (p.others_stay 2 0 (lit< tt) (lit< tt) refl refl)
