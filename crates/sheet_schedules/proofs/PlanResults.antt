-- What is answered for the schedules of a row, by the tests.
use Rattle.std.specs.Prelude.{Ok, Err}
use Prim.Native.Nat.{ℕ, ◌*◌, ◌/◌, ◌≤◌, ◌<◌}
use mathlib.Core.Path.{◌≡◌, sym, ◌∙◌}
use mathlib.Core.Bool.{cond}
use mathlib.Core.List.{List, ◌++◌}
use native.Mathlib.Omega.{arith}
use lib.Dec.{leb, ltb}
use lib.ListN.{length, drop}
use borrow.Author.Tests.{le-ltb, lt-ltb, ltb-true, ltb-false, le-leb, lt-leb}
use borrow.Table.Steps.{cases}
use Rattle.model.specs.Demand.{row_schedule}
use Rattle.model.specs.Places.{PlaceLeft}
use Rattle.model.specs.Schedules.{optimal_schedule, optimal_byte}
use Rattle.model.specs.Sheets.{SheetValue, trace_of, marks_of, row_at}
use Rattle.model.specs.declared.Refusal.TheVariants.{NoSuchRow, PlaceTooShort}
use Rattle.model.proofs.Decisions.{length-held_bytes}
use Rattle.model.proofs.Places.{text-short, text-fits, refusal-left}
use Rattle.model.proofs.Tables.{length-tabulate}
use Rattle.stores.specs.Modtotal.{mod_held, mod_schedule}
use Rattle.stores.specs.Rows.{row_mod_schedule}
use Rattle.stores.specs.Plans.{schedule_for, modified_for, priced_at, price_for}
use Rattle.sheet_schedules.specs.inner.FormPlans.{plan_of, plan_for}

-- a place is shorter than 32 bytes for each step where it has room for fewer steps
pub room-test : (steps size : ℕ) → ltb (size / 32) steps ≡ ltb size (32 * steps)
room-test steps size =
    cases (ltb size (32 * steps))
    (λ e. lt-ltb (size / 32) steps (omega (arith, ltb-true size (32 * steps) e)) ∙ sym e)
    (λ e. le-ltb (size / 32) steps (omega (arith, ltb-false size (32 * steps) e)) ∙ sym e)

-- the schedule of row r of a sheet that is made for its form
abbrev row_plan : SheetValue → ℕ → List ℕ
row_plan v r = plan_of v.form (trace_of v) (marks_of v.marks) (row_at v r).h (row_at v r).d

-- the optimal schedule has 32 bytes for each step
pub schedule-length : (v : SheetValue) (r : ℕ) → length (row_schedule v r) ≡ 32 * length v.entries
unfolding optimal_schedule
schedule-length v r =
    length-tabulate (32 * length v.entries) (optimal_byte (trace_of v) (row_at v r).h (row_at v r).d)

-- and so has that of the least total with stores counted
pub modified-length : (v : SheetValue) (r : ℕ) → length (row_mod_schedule v r) ≡ 32 * length v.entries
unfolding mod_schedule
modified-length v r =
    length-held_bytes (length v.entries) (mod_held (trace_of v) (marks_of v.marks) (row_at v r).h (row_at v r).d)

-- so that which is made for the sheet's form
plan-length : (v : SheetValue) (r : ℕ) → length (row_plan v r) ≡ 32 * length v.entries
plan-length v r = cases (leb 4 v.form) (λ e. rw e (modified-length v r)) (λ e. rw e (schedule-length v r))

-- a schedule of 32 bytes a step for a row that there is, in a place that is long enough
module _ (v : SheetValue) (r : ℕ) (p place : List ℕ) (whole : length p ≡ 32 * length v.entries) where
  put : r < length v.head.rows → 32 * length v.entries ≤ length place
      → PlaceLeft (cond (ltb r (length v.head.rows)) (Ok p) (Err NoSuchRow)) place
      (p ++ drop (32 * length v.entries) place)
      (Ok (32 * length v.entries))
  put lt fits = rw (lt-ltb r (length v.head.rows) lt) (text-fits p place whole fits)

-- what is answered for them, and what is left in the place
module _ (v : SheetValue) (r : ℕ) (place : List ℕ) where
  pub schedule-placed : r < length v.head.rows → 32 * length v.entries ≤ length place
      → PlaceLeft (schedule_for v r) place (row_schedule v r ++ drop (32 * length v.entries) place)
      (Ok (32 * length v.entries))
  unfolding schedule_for
  schedule-placed = put v r (row_schedule v r) place (schedule-length v r)

  pub modified-placed : r < length v.head.rows → 32 * length v.entries ≤ length place
      → PlaceLeft (modified_for v r) place (row_mod_schedule v r ++ drop (32 * length v.entries) place)
      (Ok (32 * length v.entries))
  unfolding modified_for
  modified-placed = put v r (row_mod_schedule v r) place (modified-length v r)

  pub plan-placed : r < length v.head.rows → 32 * length v.entries ≤ length place
      → PlaceLeft (plan_for v r) place (row_plan v r ++ drop (32 * length v.entries) place)
      (Ok (32 * length v.entries))
  unfolding plan_for
  plan-placed = put v r (row_plan v r) place (plan-length v r)

  pub plan-no-row : length v.head.rows ≤ r → PlaceLeft (plan_for v r) place place (Err NoSuchRow)
  unfolding plan_for
  plan-no-row le = rw (le-ltb r (length v.head.rows) le) (refusal-left NoSuchRow place)

  pub plan-short : r < length v.head.rows → length place < 32 * length v.entries
      → PlaceLeft (plan_for v r) place place (Err PlaceTooShort)
  unfolding plan_for
  plan-short lt less =
      rw (lt-ltb r (length v.head.rows) lt) (text-short (row_plan v r) place (omega (arith, plan-length v r)))

-- it is that of document 01 up to form 3, and that of request F-13 from form 4 on
pub plan-is-schedule : (v : SheetValue) (r : ℕ) → v.form ≤ 3 → plan_for v r ≡ schedule_for v r
unfolding plan_for schedule_for
plan-is-schedule v r le = rw (lt-leb 4 v.form (omega arith))

pub plan-is-modified : (v : SheetValue) (r : ℕ) → 4 ≤ v.form → plan_for v r ≡ modified_for v r
unfolding plan_for modified_for
plan-is-modified v r le = rw (le-leb 4 v.form le)

-- the price of a schedule at a row that there is, and at one that there is not
module _ (v : SheetValue) (r : ℕ) (p : List ℕ) where
  pub price-no-row : length v.head.rows ≤ r → price_for v r p ≡ Err NoSuchRow
  unfolding price_for
  price-no-row le = rw (le-ltb r (length v.head.rows) le)

  pub price-at : r < length v.head.rows → price_for v r p ≡ priced_at v r p
  unfolding price_for
  price-at lt = rw (lt-ltb r (length v.head.rows) lt)
