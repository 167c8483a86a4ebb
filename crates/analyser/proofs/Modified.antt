-- Demand 3 holds of every run of bytes that reads as an accepted sheet of form 4, and of every row of it, with modtotal as the optimum.
use Rattle.std.specs.Prelude.{Ok}
use Prim.Native.Nat.{ℕ, ◌*◌, ◌≤◌, ◌<◌}
use mathlib.Core.Path.{◌≡◌, refl, sym}
use mathlib.Core.List.{List, ◌++◌}
use native.Mathlib.Omega.{arith}
use lib.ListN.{length, drop}
use lib.Seq.{take-append_seam}
use Rattle.model.specs.Places.{PlaceLeft}
use Rattle.model.specs.Sheets.{SheetValue, Valid, trace_of, marks_of, row_at}
use Rattle.sheet.specs.Reading.{accepted, read_forms, read_sheet}
use Rattle.sheet.proofs.Accepted.{accepted-valid, accepted-form}
use Rattle.sheet.proofs.RoundTrip.{every-form}
use Rattle.sheet_schedules.proofs.PlanResults.{modified-length, modified-placed}
use Rattle.listing.specs.Listing.{listing_of}
use Rattle.stores.specs.Demand.{MarkedDemand}
use Rattle.stores.specs.Rows.{row_mod_schedule}
use Rattle.stores.proofs.Demand.{run-demand}
use Rattle.stores.proofs.Unmarked.{unmarked-total, unmarked-schedule}
use Rattle.analyser.specs.Texts.{listing_result}
use Rattle.analyser.proofs.Demand.{stores-priced}
use Rattle.analyser.specs.Schedules.{modified_result}
use Rattle.analyser.specs.ModifiedFromBytes.{left_modified, HasModtotal, ModifiedFromBytes}

module _ (s : List ℕ) (v : SheetValue) (reads : read_forms 4 4 s ≡ accepted v) (r : ℕ) (row : r < length v.head.rows) where
  any : read_sheet s ≡ accepted v
  any = every-form 4 4 (omega arith) s v reads

  valid : Valid v
  valid = accepted-valid 4 4 (omega arith) s v reads

  form-is : v.form ≡ 4
  form-is = let f = accepted-form 4 4 (omega arith) s v reads in omega (arith, f.0, f.1)

  demand : MarkedDemand (trace_of v) (marks_of v.marks) (row_at v r).h (row_at v r).d
  demand =
      run-demand v.head.kind v.head.a v.head.sizes v.head.warm v.entries (marks_of v.marks) (row_at v r).h
      (row_at v r).d
      valid.run valid.warm (valid.rows.some_d r row)

  -- what the schedule call answers and leaves
  placed_at : (place : List ℕ) → 32 * length v.entries ≤ length place
      → PlaceLeft (modified_result s r) place (row_mod_schedule v r ++ drop (32 * length v.entries) place)
      (Ok (32 * length v.entries))
  unfolding modified_result
  placed_at place fits = rw reads (modified-placed v r place row fits)

  -- the bytes at the front are the schedule of the least total
  front-is : (place : List ℕ) → 32 * length v.entries ≤ length place → left_modified s v r place ≡ row_mod_schedule v r
  front-is place fits =
      rw (← (placed_at place fits).place_is, ← modified-length v r)
      (take-append_seam (row_mod_schedule v r) (drop (length (row_mod_schedule v r)) place))

  modtotal-of : HasModtotal s v r (row_mod_schedule v r)
  modtotal-of =
      record {
        permitted = demand.permitted;
        total = demand.total;
        priced = rw (stores-priced s v any r row (row_mod_schedule v r) demand.permitted, demand.total);
        least = demand.least;
        holds = demand.holds;
      }

  pub modified-from-bytes : ModifiedFromBytes s v r
  unfolding listing_result listing_of
  modified-from-bytes =
      record {
        listed = rw (any, form-is) refl;
        lower = demand.lower;
        schedule_accepted = λ place fits. sym (placed_at place fits).answer_is;
        written = λ place fits. rw (front-is place fits) modtotal-of;
        left = λ place fits. sym (placed_at place fits).place_is;
        priced = stores-priced s v any r row;
        unmarked = λ none. (
          unmarked-total (trace_of v) (marks_of v.marks) none (row_at v r).h (row_at v r).d,
          unmarked-schedule (trace_of v) (marks_of v.marks) none (row_at v r).h (row_at v r).d,
        );
      }
