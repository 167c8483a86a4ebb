-- What is answered for the schedules of a row of a sheet with marks, computed from the definitions.
use Rattle.std.specs.Prelude.{Result, Ok, Err}
use Rattle.model.specs.declared.Refusal.{Refusal}
use Rattle.model.specs.declared.Price.{Price}
use Prim.Native.Nat.{ℕ}
use mathlib.Core.Path.{◌≡◌, refl}
use mathlib.Core.Bool.{true, false}
use mathlib.Core.List.{List, [], ◌∷◌, ◌++◌}
use lib.ListN.{replicate}
use Rattle.model.specs.Decisions.{held_byte, held_bytes}
use Rattle.model.specs.Figures.{kept, ref_cost}
use Rattle.model.specs.Pricing.{missing, enters, some_enters, step_verdict, steps_verdict, schedule_verdict}
use Rattle.model.specs.Refusals.{verdict_number, value_or_zero}
use Rattle.model.specs.Pricing.{no_price}
use Rattle.model.specs.Schedules.{held, schedule_memory, schedule_load, next_kept, optimal_held, optimal_byte, optimal_schedule}
use Rattle.model.specs.Sheets.{SheetValue, listed}
use Rattle.model.specs.Sums.{sum, tabulate}
use Rattle.model.specs.Traces.{touching, later, unreferenced}
use Rattle.model.specs.declared.Kind.TheVariants.{Time}
use Rattle.model.specs.declared.Refusal.TheVariants.{NoSuchRow}
use Rattle.stores.specs.Modtotal.{since_mark, store_cost, joins_before, next_marked, mod_held, mod_schedule}
use Rattle.stores.specs.Plans.{schedule_for, modified_for, priced_at, price_for}
use Rattle.stores.specs.Stays.{all, any, every_step, some_step, held_before, held_after, is_stay, modifies_in, is_modified_stay}
use Rattle.stores.specs.Stays.{stores_of, marked_load, marked_total}

-- two segments, w is 1; segment 0 is modified in steps 1 and 4. Row 3/2: the keep rule drops it in between, and one long stay saves a store
sheet : SheetValue
sheet =
    record {
      form = 4;
      head = record { kind = Time; a = 0; sizes = 1 ∷ 1 ∷ []; rows = record { h = 3; d = 2 } ∷ []; warm = [] };
      entries = 0 ∷ 1 ∷ 1 ∷ 0 ∷ [];
      marks = true ∷ false ∷ false ∷ true ∷ [];
    }

-- a schedule by the first byte of each step
bytes_of : List ℕ → List ℕ
bytes_of [] = []
bytes_of (x ∷ xs) = (x ∷ replicate 31 0) ++ bytes_of xs

-- the schedule of document 01, and that of request F-13
keeps : schedule_for sheet 0 ≡ Ok (bytes_of (1 ∷ 2 ∷ 2 ∷ 1 ∷ []))
unfolding sheet bytes_of schedule_for optimal_schedule optimal_byte optimal_held next_kept kept sum tabulate touching later unreferenced
    listed
keeps = refl

stays : modified_for sheet 0 ≡ Ok (bytes_of (1 ∷ 3 ∷ 3 ∷ 1 ∷ []))
unfolding sheet bytes_of modified_for mod_schedule mod_held joins_before next_marked since_mark store_cost next_kept kept held_byte
    held_bytes sum tabulate touching later unreferenced listed
stays = refl

-- 7 where there is no such row
no_row : schedule_for sheet 1 ≡ Err NoSuchRow
unfolding sheet schedule_for
no_row = refl

no-row-modified : modified_for sheet 1 ≡ Err NoSuchRow
unfolding sheet modified_for
no-row-modified = refl

-- the numbers of a price: its number, memory, load and total
price_numbers : Result Price Refusal → List ℕ
price_numbers p = verdict_number p ∷ (value_or_zero no_price p).memory.0 ∷ (value_or_zero no_price p).load.0
    ∷ (value_or_zero no_price p).total ∷ []

-- the prices of both with stores counted; 7 before 8; 8, 9 and 10
priced : price_numbers (price_for sheet 0 (bytes_of (1 ∷ 2 ∷ 2 ∷ 1 ∷ []))) ++ price_numbers
    (price_for sheet 0 (bytes_of (1 ∷ 3 ∷ 3 ∷ 1 ∷ [])))
    ≡ 0 ∷ 4 ∷ 5 ∷ 23 ∷ 0 ∷ 6 ∷ 3 ∷ 21 ∷ []
unfolding sheet bytes_of price_numbers price_for priced_at schedule_verdict steps_verdict step_verdict missing some_enters enters held
    listed ref_cost schedule_memory schedule_load marked_load marked_total stores_of is_modified_stay is_stay every_step some_step all any
    held_before held_after modifies_in sum tabulate touching later unreferenced
priced = refl

refused : price_numbers (price_for sheet 1 [])
    ++ price_numbers (price_for sheet 0 [])
    ++ price_numbers (price_for sheet 0 (bytes_of (2 ∷ 2 ∷ 2 ∷ 1 ∷ [])))
    ++ price_numbers (price_for sheet 0 (bytes_of (3 ∷ 2 ∷ 2 ∷ 1 ∷ [])))
    ≡ 7 ∷ 0 ∷ 0 ∷ 0 ∷ 8 ∷ 0 ∷ 0 ∷ 0 ∷ 9 ∷ 0 ∷ 0 ∷ 0 ∷ 10 ∷ 0 ∷ 0 ∷ 0 ∷ []
unfolding sheet bytes_of price_numbers price_for priced_at schedule_verdict steps_verdict step_verdict missing some_enters enters held
    listed touching
refused = refl
