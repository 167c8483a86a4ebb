-- Runs with modifying touches and rows, with modtotal, the schedule written and the prices of others, in one table; a single proof goes
-- over it, computed from the definitions. The first run is worked by hand, the others by trying all schedules. At the end what a stay is
-- and what is stored, by the definitions alone.
use Prim.Native.Nat.{ℕ, zero, suc, ◌+◌, ◌*◌, ◌/◌, ◌%◌}
use mathlib.Core.Path.{◌≡◌, refl}
use mathlib.Core.Bool.{Bool, true, false, cond, ◌&&◌}
use mathlib.Core.List.{List, [], ◌∷◌, ◌++◌}
use lib.Dec.{eqb}
use lib.ListN.{get_or, replicate}
use Rattle.model.specs.Sheets.{listed, run_of, marks_of}
use Rattle.model.specs.Sums.{sum, tabulate}
use Rattle.model.specs.Traces.{Trace, steps, touching, later, unreferenced}
use Rattle.model.specs.Figures.{misses, volume, load, optmem, opttotal, kept, ref_cost}
use Rattle.model.specs.Schedules.{bit, held, schedule_memory, schedule_load, next_kept}
use Rattle.model.specs.Decisions.{held_byte, held_bytes}
use Rattle.model.specs.declared.Kind.{Kind}
use Rattle.model.specs.declared.Kind.TheVariants.{Time, Space}
use Rattle.stores.specs.Modtotal.{since_mark, store_cost, mod_added, modtotal, joins_before, next_marked, mod_held, mod_schedule}
use Rattle.stores.specs.Stays.{all, any, every_step, some_step, held_before, held_after, is_stay, modifies_in, is_modified_stay}
use Rattle.stores.specs.Stays.{stores_of, marked_load, marked_total}
use Rattle.stores.specs.inner.Marks.{dirty, stores_at_ends}

-- a step: a touch, a touch that modifies, or none
pub data Step : Type 0 where
  t w : ℕ → Step
  idle : Step

-- its entry, where 9 is no segment, and its mark
entry_of : Step → ℕ
entry_of (t i) = i
entry_of (w i) = i
entry_of idle = 9

mark_of : Step → Bool
mark_of (t i) = false
mark_of (w i) = true
mark_of idle = false

entries_of : List Step → List ℕ
entries_of [] = []
entries_of (s ∷ ss) = entry_of s ∷ entries_of ss

marked : List Step → List Bool
marked [] = []
marked (s ∷ ss) = mark_of s ∷ marked ss

-- a run and its marks
pub record Marked : Type 0 where
  pub trace : Trace
  pub marks : List Bool

-- the run of a kind, a, sizes, warm segments and steps
run : Kind → ℕ → List ℕ → List ℕ → List Step → Marked
run kind a sizes warm ss = record { trace = run_of kind a sizes warm (entries_of ss); marks = marked ss }

-- a schedule by the first byte of each step, its load with stores counted and its total
pub record Priced : Type 0 where
  pub bytes : List ℕ
  pub load : ℕ
  pub total : ℕ

abbrev priced : List ℕ → ℕ → ℕ → Priced
priced bytes load total = record { bytes = bytes; load = load; total = total }

-- a run, a row h/d, modtotal, the load and the bytes of the schedule written, and other schedules
pub record Example : Type 0 where
  pub run : Marked
  pub h : ℕ
  pub d : ℕ
  pub modtotal : ℕ
  pub load : ℕ
  pub bytes : List ℕ
  pub others : List Priced

abbrev at : Marked → ℕ → ℕ → ℕ → ℕ → List ℕ → List Priced → Example
at run h d modtotal load bytes others =
    record { run = run; h = h; d = d; modtotal = modtotal; load = load; bytes = bytes; others = others }

-- 32 bytes for each step, all but the first of them 0, and the first bytes of a schedule
bytes_of : List ℕ → List ℕ
bytes_of [] = []
bytes_of (b ∷ bs) = (b ∷ replicate 31 0) ++ bytes_of bs

first_bytes : ℕ → List ℕ → List ℕ
first_bytes n p = tabulate n (λ k. get_or p (32 * k) 0)

-- two lists are the same
same : List ℕ → List ℕ → Bool
same [] [] = true
same [] (y ∷ ys) = false
same (x ∷ xs) [] = false
same (x ∷ xs) (y ∷ ys) = eqb x y && same xs ys

-- every schedule of the list has its price, with the stores counted by stays, and where stays end
all_priced : Trace → (ℕ → Bool) → ℕ → ℕ → List Priced → Bool
all_priced T marks h d [] = true
all_priced T marks h d (p ∷ ps) =
    eqb (marked_load T marks (bytes_of p.bytes)) p.load
    && (eqb (schedule_load T (bytes_of p.bytes) + stores_at_ends T marks (held T (bytes_of p.bytes))) p.load
    && (eqb (marked_total T marks h d (bytes_of p.bytes)) p.total && all_priced T marks h d ps))

-- an example is true
holds : Trace → (ℕ → Bool) → Example → Bool
holds T marks e =
    eqb (modtotal T marks e.h e.d) e.modtotal
    && (eqb (marked_load T marks (mod_schedule T marks e.h e.d)) e.load
    && (same (first_bytes (steps T) (mod_schedule T marks e.h e.d)) e.bytes && all_priced T marks e.h e.d e.others))

-- every example of the list is
pub all_hold : List Example → Bool
all_hold [] = true
all_hold (e ∷ es) = holds e.run.trace (marks_of e.run.marks) e && all_hold es

-- w is 1, and segment 0 is modified in steps 1 and 4, so R = 2. Row 3/2: held for 4, 1 more than a load, it saves a store of 3, and no
-- schedule by the keep rule alone is as cheap (21 against 23). Row 1/1: 1 more than a load is as much as a store, and equality holds, which
-- gives the smaller load. Row 1/2: 3 more than a load, against a store of 1
saved : Marked
saved = run Time 0 (1 ∷ 1 ∷ []) [] (w 0 ∷ t 1 ∷ t 1 ∷ w 0 ∷ [])

-- touches between the modifying ones, and a warm segment
interleaved : Marked
interleaved = run Time 0 (2 ∷ 2 ∷ []) (1 ∷ []) (w 0 ∷ w 1 ∷ w 1 ∷ t 0 ∷ t 1 ∷ t 0 ∷ w 1 ∷ t 1 ∷ idle ∷ w 1 ∷ w 1 ∷ [])

-- a warm segment that is modified in step 2: nothing is stored before
warm_first : Marked
warm_first = run Space 2 (1 ∷ 4 ∷ []) (0 ∷ []) (idle ∷ w 0 ∷ w 0 ∷ w 0 ∷ w 1 ∷ w 0 ∷ idle ∷ [])

-- long waits, and a row with h = 0
waiting : Marked
waiting = run Space 2 (2 ∷ 1 ∷ []) (1 ∷ []) (w 0 ∷ idle ∷ idle ∷ idle ∷ w 1 ∷ idle ∷ w 0 ∷ w 0 ∷ idle ∷ [])

-- one segment, with touches after its last modifying one
alone : Marked
alone = run Time 3 (4 ∷ []) [] (w 0 ∷ t 0 ∷ idle ∷ idle ∷ w 0 ∷ idle ∷ w 0 ∷ t 0 ∷ [])

-- all segments warm, one of them never touched
all_warm : Marked
all_warm = run Space 0 (2 ∷ 3 ∷ 4 ∷ []) (0 ∷ 1 ∷ 2 ∷ []) (w 0 ∷ idle ∷ w 0 ∷ t 1 ∷ idle ∷ idle ∷ [])

-- excesses of several reuses between modifying touches
mixed : Marked
mixed = run Time 3 (1 ∷ 4 ∷ []) (0 ∷ []) (w 1 ∷ t 1 ∷ t 0 ∷ t 1 ∷ w 1 ∷ idle ∷ w 1 ∷ [])

pub table : List Example
table =
    at saved 3 2 21 3 (1 ∷ 3 ∷ 3 ∷ 1 ∷ [])
    (priced (1 ∷ 2 ∷ 2 ∷ 1 ∷ []) 5 23 ∷ [])
    ∷ at saved 1 1 9 3 (1 ∷ 3 ∷ 3 ∷ 1 ∷ [])
    (priced (1 ∷ 2 ∷ 2 ∷ 1 ∷ []) 5 9 ∷ [])
    ∷ at saved 1 2 13 5 (1 ∷ 2 ∷ 2 ∷ 1 ∷ [])
    (priced (1 ∷ 3 ∷ 3 ∷ 1 ∷ []) 3 15 ∷ [])
    ∷ at interleaved 1 2 31 9 (1 ∷ 2 ∷ 2 ∷ 1 ∷ 2 ∷ 1 ∷ 2 ∷ 2 ∷ 2 ∷ 2 ∷ 2 ∷ [])
    (priced (1 ∷ 3 ∷ 2 ∷ 3 ∷ 3 ∷ 1 ∷ 3 ∷ 3 ∷ 3 ∷ 2 ∷ 2 ∷ []) 7 41 ∷ priced (1 ∷ 3 ∷ 3 ∷ 3 ∷ 3 ∷ 3 ∷ 3 ∷ 3 ∷ 1 ∷ 3 ∷ 2 ∷ []) 6 44 ∷ [])
    ∷ at interleaved 0 6 60 11 (1 ∷ 2 ∷ 2 ∷ 1 ∷ 2 ∷ 1 ∷ 2 ∷ 2 ∷ 0 ∷ 2 ∷ 2 ∷ [])
    (priced (3 ∷ 3 ∷ 2 ∷ 1 ∷ 2 ∷ 1 ∷ 2 ∷ 2 ∷ 0 ∷ 2 ∷ 2 ∷ []) 10 72 ∷ priced (1 ∷ 3 ∷ 2 ∷ 3 ∷ 2 ∷ 1 ∷ 3 ∷ 3 ∷ 2 ∷ 2 ∷ 2 ∷ []) 8 90 ∷ [])
    ∷ at interleaved 12842 42798 569242 11 (1 ∷ 2 ∷ 2 ∷ 1 ∷ 2 ∷ 1 ∷ 2 ∷ 2 ∷ 0 ∷ 2 ∷ 2 ∷ [])
    (priced (3 ∷ 2 ∷ 2 ∷ 3 ∷ 3 ∷ 3 ∷ 3 ∷ 3 ∷ 0 ∷ 2 ∷ 2 ∷ []) 6 761820 ∷ priced
    (3 ∷ 3 ∷ 3 ∷ 1 ∷ 2 ∷ 3 ∷ 3 ∷ 3 ∷ 3 ∷ 3 ∷ 3 ∷ []) 6 933012 ∷ [])
    ∷ at warm_first 1 6 78 24 (0 ∷ 1 ∷ 1 ∷ 1 ∷ 3 ∷ 1 ∷ 0 ∷ [])
    (priced (1 ∷ 1 ∷ 1 ∷ 1 ∷ 2 ∷ 1 ∷ 0 ∷ []) 27 81 ∷ priced (1 ∷ 1 ∷ 1 ∷ 1 ∷ 2 ∷ 3 ∷ 1 ∷ []) 27 111 ∷ [])
    ∷ at warm_first 1 9 102 30 (0 ∷ 1 ∷ 1 ∷ 1 ∷ 2 ∷ 1 ∷ 0 ∷ [])
    (priced (0 ∷ 1 ∷ 1 ∷ 1 ∷ 3 ∷ 3 ∷ 1 ∷ []) 24 150 ∷ priced (1 ∷ 1 ∷ 1 ∷ 1 ∷ 3 ∷ 3 ∷ 2 ∷ []) 21 183 ∷ [])
    ∷ at warm_first 2 9 129 24 (0 ∷ 1 ∷ 1 ∷ 1 ∷ 3 ∷ 1 ∷ 0 ∷ [])
    (priced (1 ∷ 1 ∷ 1 ∷ 1 ∷ 3 ∷ 3 ∷ 2 ∷ []) 21 204 ∷ priced (0 ∷ 1 ∷ 1 ∷ 1 ∷ 3 ∷ 1 ∷ 1 ∷ []) 24 138 ∷ [])
    ∷ at waiting 12 12 396 16 (1 ∷ 1 ∷ 1 ∷ 1 ∷ 3 ∷ 1 ∷ 1 ∷ 1 ∷ 0 ∷ [])
    (priced (1 ∷ 1 ∷ 1 ∷ 1 ∷ 2 ∷ 0 ∷ 1 ∷ 1 ∷ 1 ∷ []) 26 492 ∷ priced (3 ∷ 1 ∷ 1 ∷ 0 ∷ 2 ∷ 2 ∷ 1 ∷ 1 ∷ 1 ∷ []) 26 492 ∷ [])
    ∷ at waiting 0 65534 458738 26 (1 ∷ 0 ∷ 0 ∷ 0 ∷ 2 ∷ 0 ∷ 1 ∷ 1 ∷ 0 ∷ [])
    (priced (3 ∷ 3 ∷ 1 ∷ 1 ∷ 3 ∷ 3 ∷ 3 ∷ 3 ∷ 3 ∷ []) 16 1638350 ∷ priced (3 ∷ 2 ∷ 0 ∷ 0 ∷ 2 ∷ 2 ∷ 3 ∷ 3 ∷ 2 ∷ []) 26 851942 ∷ [])
    ∷ at waiting 4 9 167 26 (1 ∷ 0 ∷ 0 ∷ 0 ∷ 2 ∷ 0 ∷ 1 ∷ 1 ∷ 0 ∷ [])
    (priced (3 ∷ 3 ∷ 2 ∷ 0 ∷ 2 ∷ 2 ∷ 3 ∷ 3 ∷ 3 ∷ []) 26 266 ∷ priced (1 ∷ 0 ∷ 0 ∷ 0 ∷ 2 ∷ 2 ∷ 1 ∷ 1 ∷ 0 ∷ []) 26 176 ∷ [])
    ∷ at alone 2 39 338 52 (1 ∷ 1 ∷ 0 ∷ 0 ∷ 1 ∷ 1 ∷ 1 ∷ 1 ∷ [])
    (priced (1 ∷ 1 ∷ 1 ∷ 1 ∷ 1 ∷ 0 ∷ 1 ∷ 1 ∷ []) 52 377 ∷ priced (1 ∷ 1 ∷ 0 ∷ 0 ∷ 1 ∷ 1 ∷ 1 ∷ 1 ∷ []) 52 338 ∷ [])
    ∷ at alone 0 117 585 78 (1 ∷ 1 ∷ 0 ∷ 0 ∷ 1 ∷ 0 ∷ 1 ∷ 1 ∷ [])
    (priced (1 ∷ 1 ∷ 1 ∷ 0 ∷ 1 ∷ 0 ∷ 1 ∷ 1 ∷ []) 78 702 ∷ priced (1 ∷ 1 ∷ 1 ∷ 0 ∷ 1 ∷ 1 ∷ 1 ∷ 1 ∷ []) 52 819 ∷ [])
    ∷ at alone 1 39 273 78 (1 ∷ 1 ∷ 0 ∷ 0 ∷ 1 ∷ 0 ∷ 1 ∷ 1 ∷ [])
    (priced (1 ∷ 1 ∷ 1 ∷ 0 ∷ 1 ∷ 1 ∷ 1 ∷ 1 ∷ []) 52 325 ∷ priced (1 ∷ 1 ∷ 0 ∷ 0 ∷ 1 ∷ 1 ∷ 1 ∷ 1 ∷ []) 52 286 ∷ [])
    ∷ at all_warm 2 2 22 2 (1 ∷ 1 ∷ 1 ∷ 2 ∷ 0 ∷ 0 ∷ [])
    (priced (7 ∷ 7 ∷ 5 ∷ 7 ∷ 2 ∷ 2 ∷ []) 2 82 ∷ priced (7 ∷ 7 ∷ 7 ∷ 3 ∷ 1 ∷ 0 ∷ []) 1 70 ∷ [])
    ∷ at all_warm 2 3 29 4 (1 ∷ 0 ∷ 1 ∷ 2 ∷ 0 ∷ 0 ∷ [])
    (priced (7 ∷ 5 ∷ 5 ∷ 7 ∷ 6 ∷ 0 ∷ []) 2 115 ∷ priced (5 ∷ 5 ∷ 5 ∷ 3 ∷ 2 ∷ 0 ∷ []) 2 82 ∷ [])
    ∷ at all_warm 5 4 46 2 (1 ∷ 1 ∷ 1 ∷ 2 ∷ 0 ∷ 0 ∷ [])
    (priced (7 ∷ 4 ∷ 5 ∷ 2 ∷ 2 ∷ 2 ∷ []) 4 132 ∷ priced (7 ∷ 7 ∷ 5 ∷ 7 ∷ 6 ∷ 0 ∷ []) 2 170 ∷ [])
    ∷ at mixed 1 26 238 30 (2 ∷ 2 ∷ 3 ∷ 2 ∷ 2 ∷ 2 ∷ 2 ∷ [])
    (priced (2 ∷ 2 ∷ 1 ∷ 2 ∷ 2 ∷ 2 ∷ 2 ∷ []) 56 238 ∷ priced (3 ∷ 2 ∷ 1 ∷ 3 ∷ 3 ∷ 1 ∷ 2 ∷ []) 82 342 ∷ [])
    ∷ at mixed 2 65 554 82 (2 ∷ 2 ∷ 1 ∷ 2 ∷ 2 ∷ 0 ∷ 2 ∷ [])
    (priced (2 ∷ 2 ∷ 1 ∷ 3 ∷ 2 ∷ 2 ∷ 2 ∷ []) 56 632 ∷ priced (3 ∷ 3 ∷ 3 ∷ 3 ∷ 3 ∷ 1 ∷ 3 ∷ []) 52 949 ∷ [])
    ∷ at mixed 2 39 372 30 (2 ∷ 2 ∷ 3 ∷ 2 ∷ 2 ∷ 2 ∷ 2 ∷ [])
    (priced (3 ∷ 3 ∷ 1 ∷ 3 ∷ 3 ∷ 0 ∷ 2 ∷ []) 78 546 ∷ priced (3 ∷ 3 ∷ 3 ∷ 2 ∷ 2 ∷ 2 ∷ 2 ∷ []) 26 442 ∷ [])
    ∷ []

pub table-holds : all_hold table ≡ true
unfolding all_hold holds all_priced same first_bytes bytes_of table run entries_of marked entry_of mark_of saved interleaved warm_first
    waiting alone all_warm mixed listed held schedule_memory schedule_load misses volume load optmem opttotal sum tabulate touching later
    unreferenced kept ref_cost next_kept held_byte held_bytes dirty stores_at_ends marked_load marked_total since_mark store_cost
    stores_of is_modified_stay is_stay every_step some_step all any held_before held_after modifies_in mod_added modtotal joins_before
    next_marked mod_held mod_schedule
table-holds = refl

-- Stays and stores by themselves, no theorem in between. Segment i is held in step n where bit i of the number for that step is 1; the
-- first number is for step 0
held_by : List ℕ → ℕ → ℕ → Bool
held_by bytes n i = bit (get_or bytes n 0) i

-- the numbers below n of which f is true
those : ℕ → (ℕ → Bool) → List ℕ
those zero f = []
those (suc n) f = those n f ++ cond (f n) (n ∷ []) []

-- the stays of segment 0 in a record of 7 steps, 35 for that from step 3 to step 5
stays_in : List ℕ → List ℕ
stays_in bytes =
    those 100 (λ k. is_stay (run_of Time 0 (1 ∷ []) [] (replicate 7 9)) (held_by bytes) 0 (k / 10) (k % 10))

-- what is held in step 0, step 1 .., and the stays
pub record Held : Type 0 where
  pub bytes : List ℕ
  pub stays : List ℕ

abbrev has : List ℕ → List ℕ → Held
has bytes stays = record { bytes = bytes; stays = stays }

pub all_found : List Held → Bool
all_found [] = true
all_found (x ∷ xs) = same (stays_in x.bytes) x.stays && all_found xs

pub known_stays : List Held
known_stays =
    -- a warm one up to step 1, one between, and one that the record ends
    has (1 ∷ 1 ∷ 0 ∷ 1 ∷ 1 ∷ 1 ∷ 0 ∷ 1 ∷ []) (01 ∷ 35 ∷ 77 ∷ [])
    -- never held, and always
    ∷ has (replicate 8 0) []
    ∷ has (replicate 8 1) (07 ∷ [])
    -- warm and dropped at once; every other step
    ∷ has (1 ∷ 0 ∷ 0 ∷ 0 ∷ 0 ∷ 0 ∷ 1 ∷ 1 ∷ []) (00 ∷ 67 ∷ [])
    ∷ has (0 ∷ 1 ∷ 0 ∷ 1 ∷ 0 ∷ 1 ∷ 0 ∷ 1 ∷ []) (11 ∷ 33 ∷ 55 ∷ 77 ∷ [])
    -- what would be held after the record does not count
    ∷ has (replicate 10 1) (07 ∷ [])
    ∷ has (0 ∷ 0 ∷ 0 ∷ 0 ∷ 0 ∷ 0 ∷ 0 ∷ 0 ∷ 1 ∷ []) []
    ∷ []

pub stays-found : all_found known_stays ≡ true
unfolding all_found known_stays same stays_in those held_by listed is_stay every_step all held_before held_after
stays-found = refl

-- the stores of a schedule of two segments, of w = 3 and w = 5, by its steps and by what is held in step 0, step 1 ..
stored_in : List Step → List ℕ → ℕ
stored_in ss bytes = stores_of (run_of Time 1 (2 ∷ 4 ∷ []) [] (entries_of ss)) (marks_of (marked ss)) (held_by bytes)

-- what is computed, and what it must be
pub record Known : Type 0 where
  pub got : ℕ
  pub due : ℕ

abbrev is : ℕ → ℕ → Known
is got due = record { got = got; due = due }

pub all_known : List Known → Bool
all_known [] = true
all_known (k ∷ ks) = eqb k.got k.due && all_known ks

pub known_stores : List Known
known_stores =
    -- two stays with a mark each; one stay with two marks
    is (stored_in (w 0 ∷ idle ∷ w 0 ∷ []) (0 ∷ 1 ∷ 0 ∷ 1 ∷ [])) 6
    ∷ is (stored_in (w 0 ∷ idle ∷ w 0 ∷ []) (0 ∷ 1 ∷ 1 ∷ 1 ∷ [])) 3
    -- a stay that the record ends, with its mark in the last step and before; a stay of step 1 alone
    ∷ is (stored_in (t 0 ∷ w 0 ∷ []) (0 ∷ 1 ∷ 1 ∷ [])) 3
    ∷ is (stored_in (w 0 ∷ idle ∷ idle ∷ []) (0 ∷ 1 ∷ 1 ∷ 1 ∷ [])) 3
    ∷ is (stored_in (idle ∷ w 0 ∷ []) (0 ∷ 0 ∷ 1 ∷ [])) 3
    ∷ is (stored_in (w 0 ∷ idle ∷ []) (0 ∷ 1 ∷ 0 ∷ [])) 3
    -- warm, held in step 1 and marked later in the same stay; warm and dropped in step 1; warm and never touched
    ∷ is (stored_in (idle ∷ w 0 ∷ idle ∷ []) (1 ∷ 1 ∷ 1 ∷ 0 ∷ [])) 3
    ∷ is (stored_in (w 0 ∷ []) (1 ∷ 1 ∷ [])) 3
    ∷ is (stored_in (idle ∷ w 0 ∷ []) (1 ∷ 0 ∷ 1 ∷ [])) 3
    ∷ is (stored_in (idle ∷ idle ∷ []) (1 ∷ 1 ∷ 1 ∷ [])) 0
    -- a stay without a mark; one with a mark before one without, and after it
    ∷ is (stored_in (t 0 ∷ t 0 ∷ []) (0 ∷ 1 ∷ 1 ∷ [])) 0
    ∷ is (stored_in (w 0 ∷ idle ∷ t 0 ∷ []) (0 ∷ 1 ∷ 0 ∷ 1 ∷ [])) 3
    ∷ is (stored_in (t 0 ∷ idle ∷ w 0 ∷ []) (0 ∷ 1 ∷ 0 ∷ 1 ∷ [])) 3
    -- longer stays with one step between them
    ∷ is (stored_in (w 0 ∷ idle ∷ idle ∷ w 0 ∷ w 0 ∷ []) (0 ∷ 1 ∷ 1 ∷ 0 ∷ 1 ∷ 1 ∷ [])) 6
    -- each segment has its own stays and marks; a mark without a touch says nothing
    ∷ is (stored_in (t 0 ∷ w 1 ∷ t 0 ∷ []) (0 ∷ 1 ∷ 3 ∷ 1 ∷ [])) 5
    ∷ is (stored_in (w 0 ∷ w 1 ∷ w 0 ∷ w 1 ∷ []) (0 ∷ 1 ∷ 3 ∷ 3 ∷ 2 ∷ [])) 8
    ∷ is (stored_in (t 0 ∷ w 9 ∷ []) (0 ∷ 1 ∷ 1 ∷ [])) 0
    -- what would be held after the record does not count; a record without steps
    ∷ is (stored_in (w 0 ∷ []) (0 ∷ 1 ∷ 1 ∷ [])) 3
    ∷ is (stored_in [] (1 ∷ [])) 0
    ∷ []

pub stores-known : all_known known_stores ≡ true
unfolding all_known known_stores stored_in held_by entries_of marked entry_of mark_of listed sum stores_of is_modified_stay is_stay
    every_step some_step all any held_before held_after modifies_in
stores-known = refl
