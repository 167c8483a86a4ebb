-- Demand 3 of document 01 for a sheet of form 4 (request F-13), from bytes:
-- what holds of row r of the sheet v of form 4 that a run of bytes
-- s reads as, and of the calls on s. The optimum is there modtotal.
use Rattle.std.specs.Prelude.{ℕ, ◌<◌, ◌*◌, ◌≤◌, suc, ◌≡◌, true, false, List, ◌++◌, length, take, drop, Ok}
use Rattle.model.specs.Demand.{row_opttotal, row_schedule}
use Rattle.model.specs.Places.{answer_for, place_for}
use Rattle.model.specs.RowAnswers.{figures_at}
use Rattle.model.specs.Schedules.{Permitted, schedule_memory, held}
use Rattle.model.specs.Sheets.{SheetValue, trace_of, most_segs, marks_of}
use Rattle.model.specs.Sums.{tabulate}
use Rattle.model.specs.Traces.{refs_of}
use Rattle.listing.specs.Listing.{listing}
use Rattle.stores.specs.Demand.{SameUpTo}
use Rattle.stores.specs.Rows.{row_modtotal, sheet_load, sheet_total, row_mod_schedule}
use Rattle.analyser.specs.Schedules.{pricing, price_of, modified_result}
use Rattle.analyser.specs.Texts.{listing_result}

-- the bytes that the schedule call of form 4 leaves at the front of a place: 32 for each step
abbrev pub left_modified : List ℕ → SheetValue → ℕ → List ℕ → List ℕ
left_modified s v r place = take (32 * length v.entries) (place_for (modified_result s r) place)

-- a schedule that is permitted and has exactly modtotal as its total, also when the pricing call is asked, and is the one that the rule for
-- ties picks: the least load, stores counted, then in the earliest differing step, and there for the lowest differing segment, it holds
pub record HasModtotal (s : List ℕ) (v : SheetValue) (r : ℕ) (p : List ℕ) : Type 0 where
  pub permitted : Permitted (trace_of v) p
  pub total : sheet_total v r p ≡ row_modtotal v r
  pub priced : pricing s r p ≡ price_of (schedule_memory (trace_of v) p) (sheet_load v p) (row_modtotal v r)
  pub least : (q : List ℕ) → Permitted (trace_of v) q → sheet_total v r q ≡ row_modtotal v r → sheet_load v p ≤ sheet_load v q
  pub holds : (q : List ℕ) → Permitted (trace_of v) q → sheet_total v r q ≡ row_modtotal v r → sheet_load v q ≡ sheet_load v p
      → (t i : ℕ) → t < length v.entries → i < most_segs → SameUpTo (trace_of v) q p t i → held (trace_of v) q (suc t) i ≡ true
      → held (trace_of v) p (suc t) i ≡ true

pub record ModifiedFromBytes (s : List ℕ) (v : SheetValue) (r : ℕ) : Type 0 where
  -- the listing call has modtotal of each row after its mean
  pub listed : listing_result s
      ≡ Ok (listing 4 (refs_of (trace_of v)) (length v.entries) (length v.head.sizes)
      (tabulate (length v.head.rows) (figures_at v)) (tabulate (length v.head.rows) (row_modtotal v)))
  -- no permitted schedule, whatever it holds and drops, costs less, stores counted
  pub lower : (p : List ℕ) → Permitted (trace_of v) p → row_modtotal v r ≤ sheet_total v r p
  -- the schedule call accepts every place that is long enough, whatever stands there
  pub schedule_accepted : (place : List ℕ) → 32 * length v.entries ≤ length place
      → answer_for (modified_result s r) place ≡ Ok (32 * length v.entries)
  -- the bytes that it leaves at the front are a permitted schedule of exactly that total, the one that the rule for ties picks
  pub written : (place : List ℕ) → 32 * length v.entries ≤ length place → HasModtotal s v r (left_modified s v r place)
  -- they are those of the definition, and what stood beyond them stays
  pub left : (place : List ℕ) → 32 * length v.entries ≤ length place
      → place_for (modified_result s r) place ≡ row_mod_schedule v r ++ drop (32 * length v.entries) place
  -- the pricing call gives each permitted schedule its cost, stores counted
  pub priced : (p : List ℕ) → Permitted (trace_of v) p
      → pricing s r p ≡ price_of (schedule_memory (trace_of v) p) (sheet_load v p) (sheet_total v r p)
  -- without a letter w modtotal is opttotal, and the schedule that of document 01
  pub unmarked : ((t : ℕ) → t < length v.entries → marks_of v.marks t ≡ false)
      → (row_modtotal v r ≡ row_opttotal v r) × (row_mod_schedule v r ≡ row_schedule v r)
