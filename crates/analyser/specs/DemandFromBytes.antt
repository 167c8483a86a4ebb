-- Demand 3 of document 01 from bytes: what it says of row r of the sheet v that a run of bytes s reads as, and of the calls on s.
use Rattle.model.specs.RowAnswers.{figures_given}
use Rattle.std.specs.Prelude.{ℕ, ◌*◌, ◌≤◌, ◌≡◌, List, ◌++◌, length, take, drop, Ok, IsOk}
use Rattle.model.specs.Demand.{row_opttotal, row_total, row_schedule}
use Rattle.model.specs.Places.{answer_for, place_for}
use Rattle.model.specs.Schedules.{Permitted, schedule_memory, schedule_load}
use Rattle.model.specs.Sheets.{SheetValue, trace_of, row_optmem, row_load}
use Rattle.analyser.specs.Figures.{figures_answer}
use Rattle.analyser.specs.Schedules.{schedule_result, pricing, price_of}

-- the bytes that the schedule call leaves at the front of a place: 32 for each step
abbrev pub left_schedule : List ℕ → SheetValue → ℕ → List ℕ → List ℕ
left_schedule s v r place = take (32 * length v.entries) (place_for (schedule_result s r) place)

-- a schedule that is permitted and has exactly the optimum's cost, load and memory, also when the pricing call is asked
pub record HasOptimum (s : List ℕ) (v : SheetValue) (r : ℕ) (p : List ℕ) : Type 0 where
  pub permitted : Permitted (trace_of v) p
  pub total : row_total v r p ≡ row_opttotal v r
  pub load : schedule_load (trace_of v) p ≡ row_load v r
  pub memory : schedule_memory (trace_of v) p ≡ row_optmem v r
  pub priced : pricing s r p ≡ price_of (row_optmem v r) (row_load v r) (row_opttotal v r)

pub record Demand3FromBytes (s : List ℕ) (v : SheetValue) (r : ℕ) : Type 0 where
  -- the figures call accepts and reports this optimum, with this load and memory
  pub figures_accepted : IsOk (figures_answer s r)
  pub reported_optimum : (figures_given (figures_answer s r)).opttotal ≡ row_opttotal v r
  pub reported_load : (figures_given (figures_answer s r)).load.0 ≡ row_load v r
  pub reported_memory : (figures_given (figures_answer s r)).optmem.0 ≡ row_optmem v r
  -- no permitted schedule, whatever it holds and drops, costs less
  pub lower : (p : List ℕ) → Permitted (trace_of v) p → row_opttotal v r ≤ row_total v r p
  -- any permitted schedule of that cost has at least that load
  pub least : (p : List ℕ) → Permitted (trace_of v) p → row_total v r p ≡ row_opttotal v r → row_load v r ≤ schedule_load (trace_of v) p
  -- the schedule call accepts every place that is long enough, whatever stands there
  pub schedule_accepted : (place : List ℕ) → 32 * length v.entries ≤ length place
      → answer_for (schedule_result s r) place ≡ Ok (32 * length v.entries)
  -- the bytes that it leaves at the front are a permitted schedule of exactly that cost, load and memory
  pub written : (place : List ℕ) → 32 * length v.entries ≤ length place → HasOptimum s v r (left_schedule s v r place)
  -- they are those of the definition, and what stood beyond them stays
  pub left : (place : List ℕ) → 32 * length v.entries ≤ length place
      → place_for (schedule_result s r) place ≡ row_schedule v r ++ drop (32 * length v.entries) place
  -- and the pricing call gives each permitted schedule its cost
  pub priced : (p : List ℕ) → Permitted (trace_of v) p
      → pricing s r p ≡ price_of (schedule_memory (trace_of v) p) (schedule_load (trace_of v) p) (row_total v r p)
