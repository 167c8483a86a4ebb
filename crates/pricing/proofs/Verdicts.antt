-- The verdict on a schedule is Accepted exactly where the schedule is permitted; the earliest faulty step decides a refusal; and pricing
-- the optimal schedule gives optmem, load and opttotal.
use Rattle.std.specs.Prelude.{Result, Ok, Err}
use Rattle.model.specs.declared.Price.{Price}
use Prim.Native.Nat.{ℕ, zero, suc, ◌*◌, ◌≤◌, ◌<◌}
use mathlib.Core.Path.{◌≡◌, refl, ◌∙◌}
use mathlib.Core.Logic.{⊎_elim}
use mathlib.Core.Bool.{Bool, true, false, cond, not, ◌&&◌}
use mathlib.Core.List.{List}
use native.Mathlib.Omega.{arith}
use lib.Dec.{eqb, ltb}
use lib.ListN.{length}
use borrow.Author.Tests.{eqb-true, eq-eqb, ltb-true, not-false}
use Rattle.model.specs.Traces.{Trace, segs, steps, entry, touched}
use Rattle.model.specs.Figures.{load, optmem, opttotal}
use Rattle.model.specs.Schedules.{held, Permitted, schedule_memory, schedule_load, schedule_total, optimal_schedule}
use Rattle.model.specs.declared.Refusal.{Refusal}
use Rattle.model.specs.declared.Refusal.TheVariants.{ScheduleLength, TouchedNotHeld, HeldNotBefore}
use Rattle.model.proofs.Sums.{last-or-below}
use Rattle.model.proofs.Touches.{touched-at}
use Rattle.model.proofs.Optimal.{optimal-permitted, optimal-memory, optimal-load, optimal-total}
use Rattle.model.specs.Pricing.{schedule_verdict}
use Rattle.pricing.specs.inner.Prices.{price_answer}
use Rattle.model.specs.Pricing.{missing, enters, some_enters, step_verdict, steps_verdict}
use Rattle.model.specs.Refusals.{first_of}
use Rattle.pricing.proofs.StepFaults.{none-enters, step-accepted, held-touched}

-- two verdicts are accepted where the first of them is
first_left : (v w : Result (Unit {0}) Refusal) → first_of v w ≡ (Ok tt) → v ≡ (Ok tt)
first_left (Ok tt) w e = refl
first_left (Err r) w e = e

first-right : (v w : Result (Unit {0}) Refusal) → first_of v w ≡ (Ok tt) → w ≡ (Ok tt)
first-right (Ok tt) w e = e
first-right (Err r) w e = let z : ◌≡◌ {A = ℕ} 0 1 = cc in absurd (omega arith)

module _ (T : Trace) (p : List ℕ) where
  -- none of the first n enters where each of them does not
  pub enters_none : (t n : ℕ) → ((i : ℕ) → i < n → enters T p t i ≡ false) → some_enters T p t n ≡ false
  unfolding some_enters
  enters_none t zero each = refl
  enters_none t (suc n) each = rw (enters_none t n (λ i l. each i (omega arith)), each n (omega arith))

  -- an accepted step has neither fault
  accepted-step : (t : ℕ) → step_verdict T p t ≡ (Ok tt) → (missing T p t ≡ false) × (some_enters T p t 256 ≡ false)
  unfolding step_verdict
  accepted-step t = go (missing T p t) (some_enters T p t 256)
    where
      go : (m e : Bool) → ◌≡◌ {A = Result (Unit {0}) Refusal} (cond m (Err TouchedNotHeld) (cond e (Err HeldNotBefore) (Ok tt))) (Ok tt)
          → (m ≡ false) × (e ≡ false)
      go true e v = let z : ◌≡◌ {A = ℕ} 0 1 = cc in absurd (omega arith)
      go false true v = let z : ◌≡◌ {A = ℕ} 0 1 = cc in absurd (omega arith)
      go false false v = (refl, refl)

  -- a run of steps is accepted where each of them is
  accepted-steps : (n : ℕ) → steps_verdict T p n ≡ (Ok tt) → (t : ℕ) → t < n → step_verdict T p t ≡ (Ok tt)
  unfolding steps_verdict
  accepted-steps zero e t lt = absurd (omega arith)
  accepted-steps (suc n) e t lt =
      ⊎_elim
      (λ s. rw s (first-right (steps_verdict T p n) (step_verdict T p n) e))
      (λ l. accepted-steps n (first_left (steps_verdict T p n) (step_verdict T p n) e) t l)
      (last-or-below n t lt)

  steps-accepted : (n : ℕ) → ((t : ℕ) → t < n → step_verdict T p t ≡ (Ok tt)) → steps_verdict T p n ≡ (Ok tt)
  unfolding steps_verdict
  steps-accepted zero each = refl
  steps-accepted (suc n) each = rw (steps-accepted n (λ t l. each t (omega arith)), each n (omega arith))

  -- the earliest faulty step decides, however many follow
  pub first-fault : (n t : ℕ) (r : Refusal) → t < n → steps_verdict T p t ≡ (Ok tt) → step_verdict T p t ≡ Err r
      → steps_verdict T p n ≡ Err r
  unfolding steps_verdict
  first-fault zero t r lt before e = absurd (omega arith)
  first-fault (suc n) t r lt before e =
      ⊎_elim (λ s. rw (← s, before, e)) (λ l. rw (first-fault n t r l before e)) (last-or-below n t lt)

  -- a schedule of the right length has the verdict of its steps
  pub whole-verdict : length p ≡ 32 * steps T → schedule_verdict T p ≡ steps_verdict T p (steps T)
  unfolding schedule_verdict
  whole-verdict e = rw (eq-eqb (length p) (32 * steps T) e)

  -- a schedule of another length is refused with 8
  pub other_length : eqb (length p) (32 * steps T) ≡ false → schedule_verdict T p ≡ Err ScheduleLength
  unfolding schedule_verdict
  other_length e = rw e

  -- an accepted schedule has the right length, and its steps are accepted
  accepted-whole : schedule_verdict T p ≡ (Ok tt) → (length p ≡ 32 * steps T) × (steps_verdict T p (steps T) ≡ (Ok tt))
  unfolding schedule_verdict
  accepted-whole = go (eqb (length p) (32 * steps T)) refl
    where
      go : (b : Bool) → eqb (length p) (32 * steps T) ≡ b → cond b (steps_verdict T p (steps T)) (Err ScheduleLength) ≡ (Ok tt)
          → (length p ≡ 32 * steps T) × (steps_verdict T p (steps T) ≡ (Ok tt))
      go true q v = (eqb-true (length p) (32 * steps T) q, v)
      go false q v = let z : ◌≡◌ {A = ℕ} 0 1 = cc in absurd (omega arith)

  -- a segment that does not enter, and is held untouched, was held before
  stays : (t i : ℕ) → enters T p t i ≡ false → touched T t i ≡ false → held T p (suc t) i ≡ true → held T p t i ≡ true
  unfolding enters
  stays t i e m h = not-false (held T p t i) (rw (h, m) at e)

  -- an accepted schedule is permitted
  pub accepted-permitted : schedule_verdict T p ≡ (Ok tt) → Permitted T p
  accepted-permitted v =
      let (whole, all) = accepted-whole v in
      let each : (t : ℕ) → t < steps T → (missing T p t ≡ false) × (some_enters T p t 256 ≡ false) =
      λ t lt. accepted-step t (accepted-steps (steps T) all t lt) in
      record {
        whole = whole;
        touched_held = λ t i lt m. held-touched T p t i (each t lt).0 m;
        others_stay = λ t i lt l m h. stays t i (none-enters T p t 256 (each t lt).1 i l) m h;
      }

  -- a permitted schedule lacks no touched segment, and no other segment enters
  lacks-none : Permitted T p → (t : ℕ) → t < steps T → missing T p t ≡ false
  unfolding missing
  lacks-none ok t lt = go (ltb (entry T t) (segs T)) refl
    where
      go : (b : Bool) → ltb (entry T t) (segs T) ≡ b → b && not (held T p (suc t) (entry T t)) ≡ false
      go true e = rw (ok.touched_held t (entry T t) lt (touched-at T t (ltb-true (entry T t) (segs T) e)))
      go false e = refl

  enters-not : Permitted T p → (t i : ℕ) → t < steps T → i < 256 → enters T p t i ≡ false
  unfolding enters
  enters-not ok t i lt l = go (held T p (suc t) i) refl (touched T t i) refl
    where
      go : (h : Bool) → held T p (suc t) i ≡ h → (m : Bool) → touched T t i ≡ m → (h && not m) && not (held T p t i) ≡ false
      go true h true m = refl
      go true h false m = rw (ok.others_stay t i lt l m h)
      go false h m e = refl

  -- a permitted schedule is accepted
  pub permitted-accepted : Permitted T p → schedule_verdict T p ≡ (Ok tt)
  permitted-accepted ok =
      whole-verdict ok.whole
      ∙ steps-accepted (steps T) (λ t lt. step-accepted T p t (lacks-none ok t lt) (enters_none t 256 (λ i l. enters-not ok t i lt l)))

-- what pricing an accepted schedule answers
abbrev pub priced : ℕ → ℕ → ℕ → Result Price Refusal
priced m l total = Ok (record { memory = record { 0 = m }; load = record { 0 = l }; total = total })

module _ (T : Trace) (h d : ℕ) (p : List ℕ) where
  pub accepted-answer : schedule_verdict T p ≡ (Ok tt)
      → price_answer T h d p ≡ priced (schedule_memory T p) (schedule_load T p) (schedule_total T h d p)
  unfolding price_answer
  accepted-answer e = rw (e, price_answer)

  pub refused-answer : (r : Refusal) → schedule_verdict T p ≡ Err r → price_answer T h d p ≡ Err r
  unfolding price_answer
  refused-answer r e = rw (e, price_answer)

-- pricing the optimal schedule gives optmem, load and opttotal
pub priced-optimal : (T : Trace) (h d : ℕ) → segs T ≤ 256
    → price_answer T h d (optimal_schedule T h d) ≡ priced (optmem T h d) (load T h d) (opttotal T h d)
priced-optimal T h d few =
    accepted-answer T h d (optimal_schedule T h d) (permitted-accepted T (optimal_schedule T h d) (optimal-permitted T h d few))
    ∙ rw (optimal-memory T h d few, optimal-load T h d few, optimal-total T h d few)
