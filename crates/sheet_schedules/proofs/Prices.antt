-- The price of a schedule with stores counted, from its price without them: the same where there are no marks or the schedule is refused,
-- and else with the load of the stores added.
use Rattle.std.specs.Prelude.{Result, Ok, Err}
use Rattle.model.specs.declared.Price.{Price}
use Prim.Native.Nat.{ℕ, ◌+◌, ◌*◌, ◌^◌, ◌≤◌, ◌<◌}
use mathlib.Core.Path.{◌≡◌, refl, sym, ap, ◌∙◌}
use mathlib.Core.Bool.{Bool, true, false}
use mathlib.Core.List.{List, []}
use native.Mathlib.Omega.{arith}
use borrow.Author.Tests.{leb-true, leb-false}
use lib.Dec.{leb}
use lib.ListN.{length, take}
use Rattle.model.specs.Costs.{total_cost}
use Rattle.model.specs.Schedules.{held, Permitted, schedule_memory, schedule_load, schedule_total}
use Rattle.model.specs.Sheets.{SheetValue, RunWithin, most_segs, most_steps, trace_of, marks_of, row_at}
use Rattle.model.specs.Standing.{Standing}
use Rattle.model.specs.Traces.{Trace, segs, steps}
use Rattle.model.specs.Values.{value_of}
use Rattle.model.specs.declared.PriceRow.{PriceRow}
use Rattle.model.specs.declared.Refusal.{Refusal}
use Rattle.model.specs.declared.Sheet.{Sheet}
use Rattle.model.proofs.Standing.{marks-none}
use Rattle.model.specs.Pricing.{schedule_verdict}
use Rattle.pricing.specs.inner.Prices.{price_answer}
use Rattle.pricing.proofs.Costing.{schedule-within}
use Rattle.pricing.proofs.Verdicts.{priced, accepted-answer, refused-answer, accepted-permitted}
use Rattle.store_plan.specs.inner.Passing.{SizedAs}
use Rattle.stores.specs.Rows.{sheet_load, sheet_total}
use Rattle.stores.specs.Stays.{stores_of, marked_load, marked_total}
use Rattle.stores.proofs.Unmarked.{unmarked-load}
use Rattle.stores.specs.Plans.{priced_at}
use Rattle.sheet_schedules.specs.inner.MarkedPrices.{marked_price}

module _ (v : SheetValue) (r : ℕ) (p : List ℕ) where
  -- the price without stores
  abbrev plain_price : Result Price Refusal
  plain_price = price_answer (trace_of v) (row_at v r).h (row_at v r).d p

  -- an accepted schedule, and one that is refused
  pub accepted-at : schedule_verdict (trace_of v) p ≡ (Ok tt)
      → priced_at v r p ≡ priced (schedule_memory (trace_of v) p) (sheet_load v p) (sheet_total v r p)
  unfolding priced_at
  accepted-at y = rw (y, priced_at)

  refused-at : {why : Refusal} → schedule_verdict (trace_of v) p ≡ Err why → Err why ≡ priced_at v r p
  unfolding priced_at
  refused-at y = rw (y, priced_at)

  -- a sheet without marks
  pub plain_at : v.marks ≡ [] → plain_price ≡ priced_at v r p
  unfolding marked_total schedule_total
  plain_at none = go (schedule_verdict (trace_of v) p) refl
    where
      load : sheet_load v p ≡ schedule_load (trace_of v) p
      load = unmarked-load (trace_of v) (marks_of v.marks) (λ t lt. rw none) p

      go : (w : Result (Unit {0}) Refusal) → schedule_verdict (trace_of v) p ≡ w → plain_price ≡ priced_at v r p
      go (Ok tt) y = accepted-answer _ _ _ _ y ∙ sym (accepted-at y ∙ rw load)
      go (Err why) y = refused-answer _ _ _ _ why y ∙ refused-at y

-- the price of a run's schedule without stores tells the verdict on it
module _ (T : Trace) (h d : ℕ) (p : List ℕ) where
  abbrev plain_of : Price
  plain_of =
      record { memory = record { 0 = schedule_memory T p }; load = record { 0 = schedule_load T p }; total = schedule_total T h d p }

  refused-verdict : {why : Refusal} → price_answer T h d p ≡ Err why → schedule_verdict T p ≡ Err why
  refused-verdict {why} e = go (schedule_verdict T p) refl
    where
      go : (w : Result (Unit {0}) Refusal) → schedule_verdict T p ≡ w → w ≡ Err why
      go (Ok tt) y = let z = accepted-answer T h d p y in cc
      go (Err r) y = let z = refused-answer T h d p r y in cc

  accepted-verdict : {x : Price} → price_answer T h d p ≡ Ok x → (schedule_verdict T p ≡ Ok tt) × (x ≡ plain_of)
  accepted-verdict {x} e = go (schedule_verdict T p) refl
    where
      go : (w : Result (Unit {0}) Refusal) → schedule_verdict T p ≡ w → (w ≡ Ok tt) × (x ≡ plain_of)
      go (Ok tt) y = let z = accepted-answer T h d p y in (refl, cc)
      go (Err r) y = let z = refused-answer T h d p r y in let n : ◌≡◌ {A = ℕ} 0 1 = cc in absurd (omega arith)

-- a refusal stays
pub refusal-stays : (v : SheetValue) (r : ℕ) (p : List ℕ) {why : Refusal} → plain_price v r p ≡ Err why → Err why ≡ priced_at v r p
refusal-stays v r p e = refused-at v r p (refused-verdict (trace_of v) (row_at v r).h (row_at v r).d p e)

-- and else the stores are added
pub marked_at : (v : SheetValue) (r : ℕ) (p : List ℕ) {x : Price} → plain_price v r p ≡ Ok x
    → Ok (marked_price (trace_of v) (marks_of v.marks) (row_at v r).h (row_at v r).d p) ≡ priced_at v r p
marked_at v r p e = sym (accepted-at v r p (accepted-verdict (trace_of v) (row_at v r).h (row_at v r).d p e).0)

-- the price with stores, from that without them
module _ (T : Trace) (ok : RunWithin T) (marks : List Bool) (marked : length marks ≡ steps T) (row : PriceRow) (p : List ℕ) (plain : Price)
    (y : price_answer T row.h row.d p ≡ Ok plain) where
  -- the schedule is permitted
  allowed : Permitted T p
  allowed = accepted-permitted T p (accepted-verdict T row.h row.d p y).0

  answer : plain ≡ plain_of T row.h row.d p
  answer = (accepted-verdict T row.h row.d p y).1

  -- what counting the stores needs
  pub parts_within : ((segs T ≤ most_segs) × (steps T ≤ most_steps)) × ((length marks ≡ steps T) × (length p ≡ 32 * steps T))
  parts_within = ((ok.segs_within, ok.steps_within), (marked, allowed.whole))

  -- memory and load of an accepted price are within 40 bits
  pub plain-within : (plain.memory.0 < 2 ^ 40) × (plain.load.0 < 2 ^ 40)
  plain-within = rw answer (schedule-within T ok p allowed)

  -- the load of the stores is added
  pub stores_at : {stores total : ℕ}
      → ((U : Trace) → SizedAs U T.a T.sizes T.entries → Permitted U p → stores ≡ stores_of U (marks_of marks) (held U p))
      → total ≡ total_cost row.h row.d plain.memory.0 (plain.load.0 + stores)
      → ◌≡◌ {A = Price} (record { memory = plain.memory; load = record { 0 = plain.load.0 + stores }; total = total })
      (marked_price T (marks_of marks) row.h row.d p)
  unfolding marked_load marked_total
  stores_at counted t =
      let sized : SizedAs T T.a T.sizes T.entries = record { a_is = refl; sizes_are = refl; refs_are = refl } in
      rw (t, answer, counted T sized allowed)

-- a sheet that counts no marks has none, and one with marks is of form 4
pub marks-empty : (s : Sheet) → s.marked ≡ 0 → (value_of s).marks ≡ []
unfolding value_of
marks-empty s e = ap (λ n. take n s.marks) e

pub marked-form : (s : Sheet) → Standing s → 0 < s.marked → 4 ≤ s.form
marked-form s c some = go (leb 4 s.form) refl
  where
    go : (b : Bool) → leb 4 s.form ≡ b → 4 ≤ s.form
    go true e = leb-true 4 s.form e
    go false e = absurd (omega (arith, marks-none s c (omega (arith, leb-false 4 s.form e))))
