-- Demand 3 holds of every run of bytes that reads as an accepted sheet of form 1, 2 or 3, and of every row of it. What holds of form 4 is
-- in Modified.antt.
use Rattle.std.specs.Prelude.{Ok, is_ok}
use Prim.Native.Nat.{ℕ, ◌*◌, ◌≤◌, ◌<◌}
use mathlib.Core.Path.{◌≡◌, refl, sym, ap, ◌∙◌}
use mathlib.Core.List.{List, ◌++◌}
use native.Mathlib.Omega.{arith}
use lib.ListN.{length, drop}
use lib.Seq.{take-append_seam}
use borrow.Author.Tests.{lt-ltb}
use Rattle.model.specs.Costs.{total_cost}
use Rattle.model.specs.Demand.{row_total, row_schedule}
use Rattle.model.specs.Places.{PlaceLeft}
use Rattle.model.specs.Rows.{row_figures}
use Rattle.model.specs.Schedules.{Permitted, schedule_memory, schedule_load, schedule_total}
use Rattle.model.specs.Sheets.{SheetValue, Valid, trace_of, marks_of, row_at}
use Rattle.model.proofs.Demand.{demand-3}
use Rattle.sheet.specs.Reading.{accepted, read_forms, read_sheet}
use Rattle.sheet.proofs.Accepted.{accepted-valid, accepted-form}
use Rattle.sheet.proofs.RoundTrip.{every-form}
use Rattle.model.specs.RowAnswers.{figures_of, figures_at, figures_given}
use Rattle.pricing.proofs.Verdicts.{permitted-accepted}
use Rattle.sheet_schedules.proofs.PlanResults.{schedule-length, schedule-placed, price-at}
use Rattle.sheet_schedules.proofs.Prices.{accepted-at}
use Rattle.stores.specs.Rows.{sheet_load, sheet_total}
use Rattle.stores.specs.Stays.{marked_total}
use Rattle.stores.proofs.Unmarked.{unmarked-load}
use Rattle.analyser.specs.Figures.{figures_answer}
use Rattle.analyser.specs.Schedules.{schedule_result, pricing}
use Rattle.analyser.specs.DemandFromBytes.{left_schedule, HasOptimum, Demand3FromBytes}
use Rattle.analyser.specs.Schedules.{price_of}

-- of a sheet of any form
module _ (s : List ℕ) (v : SheetValue) (reads : read_sheet s ≡ accepted v) (r : ℕ) (row : r < length v.head.rows) where
  -- the figures call answers the row's figures
  pub figures_are : figures_answer s r ≡ Ok (figures_at v r)
  unfolding figures_answer figures_of
  figures_are = rw (reads, lt-ltb r (length v.head.rows) row)

  -- the pricing call prices a permitted schedule, the stores of the sheet's marks counted
  pub stores-priced : (p : List ℕ) → Permitted (trace_of v) p
      → pricing s r p ≡ price_of (schedule_memory (trace_of v) p) (sheet_load v p) (sheet_total v r p)
  unfolding pricing
  stores-priced p ok = rw reads (price-at v r p row ∙ accepted-at v r p (permitted-accepted (trace_of v) p ok))

module _ (s : List ℕ) (v : SheetValue) (reads : read_forms 1 3 s ≡ accepted v) (r : ℕ) (row : r < length v.head.rows) where
  any : read_sheet s ≡ accepted v
  any = every-form 1 3 (omega arith) s v reads

  valid : Valid v
  valid = accepted-valid 1 3 (omega arith) s v reads

  -- without marks there are no stores
  pub load_is : (p : List ℕ) → sheet_load v p ≡ schedule_load (trace_of v) p
  load_is p =
      unmarked-load (trace_of v) (marks_of v.marks) (λ t lt. rw (valid.unmarked (accepted-form 1 3 (omega arith) s v reads).1) refl) p

  pub total-is : (p : List ℕ) → sheet_total v r p ≡ row_total v r p
  unfolding marked_total schedule_total
  total-is p = ap (λ l. total_cost (row_at v r).h (row_at v r).d (schedule_memory (trace_of v) p) l) (load_is p)

  -- the pricing call prices a permitted schedule
  priced-at : (p : List ℕ) → Permitted (trace_of v) p
      → pricing s r p ≡ price_of (schedule_memory (trace_of v) p) (schedule_load (trace_of v) p) (row_total v r p)
  priced-at p ok = rw (← load_is p, ← total-is p) (stores-priced s v any r row p ok)

  -- what the schedule call answers and leaves
  placed_at : (place : List ℕ) → 32 * length v.entries ≤ length place
      → PlaceLeft (schedule_result s r) place (row_schedule v r ++ drop (32 * length v.entries) place)
      (Ok (32 * length v.entries))
  unfolding schedule_result
  placed_at place fits = rw reads (schedule-placed v r place row fits)

  -- the bytes at the front are the optimal schedule
  front-is : (place : List ℕ) → 32 * length v.entries ≤ length place → left_schedule s v r place ≡ row_schedule v r
  front-is place fits =
      rw (← (placed_at place fits).place_is, ← schedule-length v r)
      (take-append_seam (row_schedule v r) (drop (length (row_schedule v r)) place))

  -- which has the optimum
  optimum-of : HasOptimum s v r (row_schedule v r)
  optimum-of =
      let d = demand-3 v valid.run.segs_within r row in
      record {
        permitted = d.permitted;
        total = d.total;
        load = d.load;
        memory = d.memory;
        priced = rw (priced-at (row_schedule v r) d.permitted, d.memory, d.load, d.total);
      }

  pub demand-3-from-bytes : Demand3FromBytes s v r
  unfolding row_figures
  demand-3-from-bytes =
      let d = demand-3 v valid.run.segs_within r row in
      let f = figures_are s v any r row in
      record {
        figures_accepted = ap is_ok f;
        reported_optimum = ap (λ a. (figures_given a).opttotal) f;
        reported_load = ap (λ a. (figures_given a).load.0) f;
        reported_memory = ap (λ a. (figures_given a).optmem.0) f;
        lower = d.lower;
        least = d.least;
        schedule_accepted = λ place fits. sym (placed_at place fits).answer_is;
        written = λ place fits. rw (front-is place fits) optimum-of;
        left = λ place fits. sym (placed_at place fits).place_is;
        priced = priced-at;
      }
