-- Looking for a page in the table: place after place from its home on, up to its own or an empty one.
use Prim.Native.Nat.{ℕ, suc, ◌+◌, ◌-◌, ◌%◌, ◌≤◌, ◌<◌}
use mathlib.Core.Path.{◌≡◌, refl}
use mathlib.Core.List.{List, [], ◌∷◌}
use native.Mathlib.Omega.{arith}
use borrow.Author.Count.{below_more}
use borrow.Author.Tests.{ne_eqb}
use lib.ListN.{length, get_or}
use Rattle.din.specs.inner.Held.{table_places, home_of, empty_places, Found}

pub home_below : (p : ℕ) → home_of p < table_places
unfolding home_of
home_below p = omega arith

-- a table with no empty place
full-none : (marks : List ℕ) → ((i : ℕ) → i < length marks → 1 ≤ get_or marks i 0) → empty_places marks ≡ 0
unfolding empty_places
full-none [] all = refl
full-none (m ∷ marks) all =
    rw (ne_eqb m 0 (λ e. omega (arith, all 0 (omega arith)))) (omega (arith, full-none marks (λ i lt. all (suc i) (omega arith))))

-- the j places from `start` on are not empty and have other pages than p
pub record Passed (pages marks : List ℕ) (p start j : ℕ) : Type 0 where
  pub within : j ≤ table_places
  pub others : (i : ℕ) → i < j → (1 ≤ get_or marks ((start + i) % table_places) 0) × (get_or pages ((start + i) % table_places) 0 ≡ p → ⊥)

module _ (pages marks : List ℕ) (p start : ℕ) where
  pub passed_start : Passed pages marks p start 0
  passed_start = record { within = omega arith; others = λ i lt. absurd (omega arith) }

  module _ (j : ℕ) (passed : Passed pages marks p start j) where
    pub passed_next : j < table_places → (get_or marks ((start + j) % table_places) 0 ≡ 0 → ⊥)
        → (get_or pages ((start + j) % table_places) 0 ≡ p → ⊥) → Passed pages marks p start (j + 1)
    passed_next lt m q = record { within = omega arith; others = below_more _ j passed.others (omega arith, q) }

    -- the next place has the page, or is empty
    pub passed_found : start ≡ home_of p
        → (1 ≤ get_or marks ((start + j) % table_places) 0 → get_or pages ((start + j) % table_places) 0 ≡ p)
        → Found pages marks p ((start + j) % table_places)
    passed_found e here = record { steps = j; place_is = rw e refl; passed = rw e at passed.others; here = here }

    -- all places were passed: none is empty
    pub passed_all : start ≡ home_of p → table_places ≤ j → length marks ≡ table_places → 1 ≤ empty_places marks → ⊥
    passed_all e le whole more = omega (arith, full-none marks all)
      where
        all : (i : ℕ) → i < length marks → 1 ≤ get_or marks i 0
        all i l =
            let home = home_below p in
            let back : (start + (i + (table_places - start)) % table_places) % table_places ≡ i = omega arith in
            rw back at (passed.others ((i + (table_places - start)) % table_places) (omega arith)).0
