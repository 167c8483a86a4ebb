-- Which refusal a schedule handed in gets, 8 for its length, then 9 or 10 of the earliest faulty step, and the price beside a refusal.
use Rattle.model.specs.declared.Price.{Price}
use Rattle.std.specs.Prelude.{ℕ, zero, suc, ◌*◌, Bool, false, cond, not, ◌&&◌, ◌||◌, List, eqb, ltb, length, Result, Ok, Err}
use Rattle.model.specs.Traces.{Trace, segs, steps, entry, touched}
use Rattle.model.specs.Schedules.{held}
use Rattle.model.specs.Sheets.{most_segs}
use Rattle.model.specs.Refusals.{first_of, value_or_zero}
use Rattle.model.specs.declared.Refusal.{Refusal}
use Rattle.model.specs.declared.Refusal.TheVariants.{ScheduleLength, TouchedNotHeld, HeldNotBefore}

-- the step at place t touches a segment that is not held in it
unfoldable pub missing : Trace → List ℕ → ℕ → Bool
missing T p t = ltb (entry T t) (segs T) && not (held T p (suc t) (entry T t))

-- segment i is held in the step at place t, untouched, and was not held in the step before
unfoldable pub enters : Trace → List ℕ → ℕ → ℕ → Bool
enters T p t i = (held T p (suc t) i && not (touched T t i)) && not (held T p t i)

-- one of the segments 0 to n - 1 does so
unfoldable pub some_enters : Trace → List ℕ → ℕ → ℕ → Bool
some_enters T p t zero = false
some_enters T p t (suc n) = some_enters T p t n || enters T p t n

-- the step at place t by itself: 9 where the touched segment is not held, else 10 where another enters
unfoldable pub step_verdict : Trace → List ℕ → ℕ → Result (Unit {0}) Refusal
step_verdict T p t =
    cond (missing T p t) (Err TouchedNotHeld) (cond (some_enters T p t most_segs) (Err HeldNotBefore) (Ok tt))

-- the first n steps: the earliest faulty one decides
unfoldable pub steps_verdict : Trace → List ℕ → ℕ → Result (Unit {0}) Refusal
steps_verdict T p zero = Ok tt
steps_verdict T p (suc n) = first_of (steps_verdict T p n) (step_verdict T p n)

-- a whole schedule: 8 where it does not have 32 bytes for each step, then its steps
unfoldable pub schedule_verdict : Trace → List ℕ → Result (Unit {0}) Refusal
schedule_verdict T p = cond (eqb (length p) (32 * steps T)) (steps_verdict T p (steps T)) (Err ScheduleLength)

-- the price beside a refusal: zeros
abbrev pub no_price : Price
no_price = record { memory = record { 0 = 0 }; load = record { 0 = 0 }; total = 0 }

-- the price of an answer: zeros beside a refusal
abbrev pub price_given : Result Price Refusal → Price
price_given a = value_or_zero no_price a
