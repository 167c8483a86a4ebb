-- What the two engines answer for a run and leave in a lent place, and what the call by distances leaves for a sheet.
use Rattle.std.specs.Prelude.{ℕ, ◌*◌, ◌≤◌, ◌≡◌, cond, List, [], ◌++◌, ltb, length, drop, Result, Ok, Err}
use Rattle.model.specs.Places.{PlaceLeft}
use Rattle.model.specs.Refusals.{first_of, value_or_zero}
use Rattle.model.specs.Sheets.{SheetValue, run_of, trace_of}
use Rattle.model.specs.Traces.{Trace, segs, steps, refs_of}
use Rattle.model.specs.declared.Kind.{Kind}
use Rattle.model.specs.declared.Kind.TheVariants.{Time}
use Rattle.model.specs.declared.Refusal.{Refusal}
use Rattle.model.specs.declared.Refusal.TheVariants.{PlaceTooShort}
use Rattle.replacement.specs.Answers.{ones_verdict, curve_for, curve_length, looked_for, no_curve}
use Rattle.replacement.specs.Memory.{simulated_curve}
use Rattle.replacement.specs.Recency.{lru_curve, entries_looked, distinct}
use Rattle.replacement.specs.declared.Curve.{Curve}

-- what holds of every run with these sizes and entries and no warm segment, whatever its kind and its weight
abbrev pub EveryRun : List ℕ → List ℕ → (Trace → Type 0) → Type 0
EveryRun sizes refs P = (kind : Kind) (a : ℕ) → P (run_of kind a sizes [] refs)

-- a run with these sizes and entries and no warm segment; neither its kind nor its weight counts here
abbrev pub touch_run : List ℕ → List ℕ → Trace
touch_run sizes refs = run_of Time 0 sizes [] refs

-- by distances: the misses with 1, 2, .., segs frames, and then what stood beyond them; the entries looked at, and their bound
pub record ByDistances (T : Trace) (place place' : List ℕ) (looked : ℕ) : Type 0 where
  pub place_is : place' ≡ lru_curve T ++ drop (segs T) place
  pub looked_is : looked ≡ entries_looked T
  pub bounded : looked ≤ refs_of T * distinct T (steps T)

-- by simulation: the misses with 1, 2, .., segs frames, and then what stood beyond them
abbrev pub BySimulation : Trace → List ℕ → List ℕ → Type 0
BySimulation T place place' = place' ≡ simulated_curve T ++ drop (segs T) place

-- 26, 27, then 11 where a place of so many numbers is too short
abbrev pub curve_verdict : List ℕ → ℕ → ℕ → Result (Unit {0}) Refusal
curve_verdict sizes warm room = first_of (ones_verdict sizes warm) (cond (ltb room (length sizes)) (Err PlaceTooShort) (Ok tt))

-- what the call by distances answers, and what the place is before and after it
pub record CurveLeft (v : SheetValue) (place place' : List ℕ) (answer : Result Curve Refusal) : Type 0 where
  pub left : PlaceLeft (curve_for v) place place' (curve_length answer)
  pub looked_is : (value_or_zero no_curve answer).looked ≡ looked_for v (curve_length answer)
  pub bounded : (value_or_zero no_curve answer).looked ≤ refs_of (trace_of v) * distinct (trace_of v) (steps (trace_of v))
