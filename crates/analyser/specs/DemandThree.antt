-- Demand 3 of document 01 as one statement: of every run of bytes that reads as an accepted sheet, whatever its form, and of each of its
-- rows. Two records, laws of their own, say more: `Demand3FromBytes` (DemandFromBytes.antt) memory and load as reported, for forms 1 to
-- 3, and `ModifiedFromBytes` (ModifiedFromBytes.antt) the rule for ties, for form 4.
use Rattle.model.specs.declared.Refusal.{Refusal}
use Rattle.std.specs.Prelude.{ℕ, ◌<◌, ◌*◌, ◌≤◌, ◌≡◌, cond, List, leb, length, take, drop, Result, Ok, IsOk}
use Rattle.model.specs.Demand.{row_opttotal}
use Rattle.model.specs.Places.{answer_for, place_for}
use Rattle.model.specs.RowAnswers.{figures_at, figures_given}
use Rattle.model.specs.Schedules.{Permitted, schedule_memory}
use Rattle.model.specs.Sheets.{SheetValue, trace_of, newest_form}
use Rattle.model.specs.Sums.{tabulate}
use Rattle.model.specs.Traces.{refs_of}
use Rattle.sheet.specs.Reading.{read_sheet, accepted}
use Rattle.listing.specs.Listing.{listing}
use Rattle.stores.specs.Rows.{row_modtotal, sheet_load, sheet_total}
use Rattle.analyser.specs.Figures.{figures_answer}
use Rattle.analyser.specs.Schedules.{schedule_result, pricing, price_of, modified_result}
use Rattle.analyser.specs.Texts.{listing_result}

-- the optimum of row r of a sheet: opttotal, and modtotal from form 4 on (request F-13)
abbrev pub row_optimum : SheetValue → ℕ → ℕ
row_optimum v r = cond (leb 4 v.form) (row_modtotal v r) (row_opttotal v r)

-- the schedule call that is made for the sheet's form: that of document 01, and from form 4 on that of request F-13
abbrev pub form_schedule : List ℕ → SheetValue → ℕ → Result (List ℕ) Refusal
form_schedule s v r = cond (leb 4 v.form) (modified_result s r) (schedule_result s r)

-- the bytes that it leaves at the front of a place: 32 for each step
abbrev pub left_by_form : List ℕ → SheetValue → ℕ → List ℕ → List ℕ
left_by_form s v r place = take (32 * length v.entries) (place_for (form_schedule s v r) place)

-- a schedule that is permitted and costs exactly the optimum, also when the pricing call is asked, and has the least load of all that do
pub record OwnOptimum (s : List ℕ) (v : SheetValue) (r : ℕ) (p : List ℕ) : Type 0 where
  pub permitted : Permitted (trace_of v) p
  pub total : sheet_total v r p ≡ row_optimum v r
  pub priced : pricing s r p ≡ price_of (schedule_memory (trace_of v) p) (sheet_load v p) (row_optimum v r)
  pub least : (q : List ℕ) → Permitted (trace_of v) q → sheet_total v r q ≡ row_optimum v r → sheet_load v p ≤ sheet_load v q

-- what demand 3 says of row r of the sheet v that the bytes s read as
pub record DemandThree (s : List ℕ) (v : SheetValue) (r : ℕ) : Type 0 where
  -- there are no other forms than 1 to 4
  pub some_form : 1 ≤ v.form
  pub known_form : v.form ≤ newest_form
  -- no permitted schedule, whatever it holds and drops, costs less than the optimum; a sheet with marks has its stores counted
  pub lower : (p : List ℕ) → Permitted (trace_of v) p → row_optimum v r ≤ sheet_total v r p
  -- and one costs exactly that
  pub reached : (p : List ℕ) × Permitted (trace_of v) p × (sheet_total v r p ≡ row_optimum v r)
  -- the cost is what the pricing call gives
  pub priced : (p : List ℕ) → Permitted (trace_of v) p
      → pricing s r p ≡ price_of (schedule_memory (trace_of v) p) (sheet_load v p) (sheet_total v r p)
  -- the schedule call of the sheet's form accepts every place that is long enough, whatever stands there
  pub schedule_accepted : (place : List ℕ) → 32 * length v.entries ≤ length place
      → answer_for (form_schedule s v r) place ≡ Ok (32 * length v.entries)
  -- the bytes that it leaves at the front are a permitted schedule that costs exactly the optimum
  pub written : (place : List ℕ) → 32 * length v.entries ≤ length place → OwnOptimum s v r (left_by_form s v r place)
  -- and what stood beyond them stays
  pub beyond : (place : List ℕ) → 32 * length v.entries ≤ length place
      → drop (32 * length v.entries) (place_for (form_schedule s v r) place) ≡ drop (32 * length v.entries) place
  -- the optimum is what is reported: of forms 1 to 3 by the figures call, which accepts, as opttotal
  pub figures_accepted : v.form ≤ 3 → IsOk (figures_answer s r)
  pub reported : v.form ≤ 3 → (figures_given (figures_answer s r)).opttotal ≡ row_optimum v r
  -- of form 4 by the listing call, as modtotal after each row's mean
  pub listed : v.form ≡ 4
      → listing_result s
      ≡ Ok (listing 4 (refs_of (trace_of v)) (length v.entries) (length v.head.sizes)
      (tabulate (length v.head.rows) (figures_at v)) (tabulate (length v.head.rows) (row_optimum v)))

-- demand 3: every accepted sheet and each of its rows
abbrev pub EveryRow : Type 0
EveryRow = (s : List ℕ) (v : SheetValue) → read_sheet s ≡ accepted v → (r : ℕ) → r < length v.head.rows → DemandThree s v r
