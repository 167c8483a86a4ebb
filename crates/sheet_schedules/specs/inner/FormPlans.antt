-- The schedule that is made for a sheet's form, and what is answered for it: 7, then 11 by the place.
use Rattle.model.specs.declared.Refusal.{Refusal}
use Rattle.std.specs.Prelude.{ℕ, Bool, cond, List, length, leb, ltb, Result, Ok, Err}
use Rattle.model.specs.Schedules.{optimal_schedule}
use Rattle.model.specs.Sheets.{SheetValue, trace_of, marks_of, row_at}
use Rattle.model.specs.Traces.{Trace}
use Rattle.model.specs.declared.Refusal.TheVariants.{NoSuchRow}
use Rattle.stores.specs.Modtotal.{mod_schedule}

-- document 01's schedule, and from form 4 on that of request F-13
abbrev pub plan_of : ℕ → Trace → (ℕ → Bool) → ℕ → ℕ → List ℕ
plan_of form T marks h d = cond (leb 4 form) (mod_schedule T marks h d) (optimal_schedule T h d)

-- that of row r of a sheet: 7 where there is no such row
unfoldable pub plan_for : SheetValue → ℕ → Result (List ℕ) Refusal
plan_for v r =
    cond (ltb r (length v.head.rows))
    (Ok (plan_of v.form (trace_of v) (marks_of v.marks) (row_at v r).h (row_at v r).d))
    (Err NoSuchRow)
