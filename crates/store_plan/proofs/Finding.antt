-- The loop that finds the kept reuses and the modifying touches that belong to the stay of the one before, and adds up what these add to
-- opttotal: its start, a step more and its end.
use Prim.Native.Nat.{ℕ, suc, ◌+◌, ◌^◌, ◌≤◌, ◌<◌}
use mathlib.Core.Path.{◌≡◌, sym, ap, ◌∙◌}
use mathlib.Core.Bool.{Bool, false, cond}
use mathlib.Core.List.{List}
use native.Mathlib.Omega.{arith}
use native.Mathlib.Numerals.{add-one}
use lib.ListN.{length, get_or, set, replicate, length-set, length-replicate}
use Rattle.std.specs.Prelude.{Option, None}
use Rattle.model.specs.declared.Priced.{Priced}
use lib.Seq.{get_or-set_same, get_or-set_other}
use borrow.Author.Count.{below_more}
use Rattle.model.specs.Figures.{kept}
use Rattle.model.specs.LastTouches.{last_table}
use Rattle.model.specs.Sheets.{RunWithin}
use Rattle.model.specs.Sums.{sum}
use Rattle.model.specs.Traces.{Trace, segs, steps, entry, touching, size_of}
use Rattle.model.specs.declared.PriceRow.{PriceRow}
use Rattle.model.proofs.Sums.{sum-suc, sum-none}
use Rattle.model.proofs.Touches.{entry-ref, touching_at, touching-idle}
use Rattle.stores.specs.Modtotal.{store_cost, mod_added, joins_before}
use Rattle.stores.proofs.Within.{added-within}
use Rattle.store_plan.specs.declared.mod_pass.Found.{Found}
use Rattle.store_plan.specs.declared.mod_pass.touching.Decision.{Decision}
use Rattle.store_plan.specs.declared.mod_pass.touching.Touched.{Touched}
use Rattle.store_plan.specs.inner.Decisions.{decision_at, FoundBy, FoundIn}
use Rattle.store_plan.specs.inner.Touches.{touch_by}
use Rattle.store_plan.proofs.Tables.{Tables, tables_start, tables_told, tables_touch, tables_idle}

-- what is told of each of the first t touches, with that of the step at place t put in
told_more : (T : Trace) (f : ℕ → ℕ → Bool) (g : Decision → Bool) (l : List Decision) (t i : ℕ) (x : Decision) → t < length l → entry T t ≡ i
    → g x ≡ f t i → ((k : ℕ) → k < t → entry T k < segs T → g (decision_at l k) ≡ f k (entry T k))
    → (k : ℕ) → k < t + 1 → entry T k < segs T → g (decision_at (set l t x) k) ≡ f k (entry T k)
told_more T f g l t i x room e ex told =
    below_more
    (λ k. entry T k < segs T → g (decision_at (set l t x) k) ≡ f k (entry T k))
    t
    (λ k lt touch. ap g (get_or-set_other l t k x none (λ s. omega arith)) ∙ told k lt touch)
    (λ touch. ap g (get_or-set_same l t x none room) ∙ (ex ∙ rw e))
  where
    none : Decision
    none = record { kept = false; joined = false }

-- and where that step touches nothing
told-idle : (T : Trace) (f : ℕ → ℕ → Bool) (g : Decision → Bool) (l : List Decision) (t : ℕ) → segs T ≤ entry T t
    → ((k : ℕ) → k < t → entry T k < segs T → g (decision_at l k) ≡ f k (entry T k))
    → (k : ℕ) → k < t + 1 → entry T k < segs T → g (decision_at l k) ≡ f k (entry T k)
told-idle T f g l t idle told =
    below_more (λ k. entry T k < segs T → g (decision_at l k) ≡ f k (entry T k)) t told (λ touch. absurd (omega arith))

-- what a touch adds to opttotal, and what those of the first n steps add
abbrev added_at : Trace → (ℕ → Bool) → PriceRow → ℕ → ℕ → ℕ
added_at T marks row t i = cond (marks t) (store_cost T marks row.h row.d t i) 0

abbrev added_by : Trace → (ℕ → Bool) → PriceRow → ℕ → ℕ
added_by T marks row n = sum n (touching T (added_at T marks row))

-- after t steps: the tables are those of t steps, and so is what is added, and the touches of these steps are found
pub record Finding (T : Trace) (marks : ℕ → Bool) (row : PriceRow) (found : List Decision) (last : List ℕ) (since : List (Option Priced))
    (added t : ℕ)
    : Type 0 where
  pub tables : Tables T marks row last since t
  pub whole : length found ≡ 2048
  pub told : FoundBy T marks row found t
  pub added_is : added ≡ added_by T marks row t

module _ {T : Trace} (ok : RunWithin T) {marks : ℕ → Bool} {row : PriceRow} where
  pub finding_start : {found : List Decision} {last : List ℕ} {since : List (Option Priced)}
      → found ≡ replicate 2048 (record { kept = false; joined = false })
      → last ≡ last_table T 0 → since ≡ replicate 256 None → Finding T marks row found last since 0 0
  finding_start ef el es =
      record {
        tables = tables_start ok el es;
        whole = rw ef (length-replicate {A = Decision} 2048 (record { kept = false; joined = false }));
        told = record { kept_are = λ t lt touch. absurd (omega arith); joined_are = λ t lt touch. absurd (omega arith) };
        added_is = sym (sum-none (touching T (added_at T marks row)));
      }

  module _ {found : List Decision} {last : List ℕ} {since : List (Option Priced)} {added t : ℕ}
      (v : Finding T marks row found last since added t)
      (lt : t < steps T) where
    more : added_by T marks row (suc t) ≡ added_by T marks row t + touching T (added_at T marks row) t
    more = sum-suc t (touching T (added_at T marks row))

    -- a touch of segment i
    pub finding_touch : {i : ℕ} {x : Touched} → i ≡ get_or T.entries t 0 → i < segs T
        → x ≡ touch_by T.kind T.a row (size_of T i) (get_or last i 0) (get_or since i None) t (marks t)
        → Finding T marks row (set found t x.decision) (set last i (t + 1)) (set since i x.since)
        (added + x.added.0) (t + 1)
    finding_touch {i} {x} ei li ex =
        let told = tables_told ok v.tables lt li ex in
        let e : entry T t ≡ i = entry-ref T t lt ∙ sym ei in
        let here = touching_at T (added_at T marks row) t (omega (arith, e)) in
        record {
          tables = tables_touch ok v.tables lt ei li told;
          whole = length-set found t x.decision ∙ v.whole;
          told =
              record {
                kept_are =
                    told_more T (kept T row.h row.d) (λ d. d.kept) found t i x.decision (omega (arith, v.whole, ok.steps_within)) e
                    told.kept_is v.told.kept_are;
                joined_are =
                    told_more T (joins_before T marks row.h row.d) (λ d. d.joined) found t i x.decision
                    (omega (arith, v.whole, ok.steps_within)) e told.joined_is v.told.joined_are;
              };
          added_is = rw (add-one t) (omega (arith, v.added_is, more, rw e at here, told.added_is));
        }

    -- a step without a touch
    pub finding_idle : segs T ≤ get_or T.entries t 0 → Finding T marks row found last since added (t + 1)
    finding_idle idle =
        let none : segs T ≤ entry T t = omega (arith, entry-ref T t lt) in
        record {
          tables = tables_idle ok v.tables lt idle;
          whole = v.whole;
          told =
              record {
                kept_are = told-idle T (kept T row.h row.d) (λ d. d.kept) found t none v.told.kept_are;
                joined_are = told-idle T (joins_before T marks row.h row.d) (λ d. d.joined) found t none v.told.joined_are;
              };
          added_is = rw (add-one t) (omega (arith, v.added_is, more, touching-idle T (added_at T marks row) t none));
        }

    -- what is added next does not pass 64 bits
    pub finding_small : {i : ℕ} {x : Touched} → i ≡ get_or T.entries t 0 → i < segs T → (row.h < 2 ^ 16) × (row.d < 2 ^ 16)
        → x ≡ touch_by T.kind T.a row (size_of T i) (get_or last i 0) (get_or since i None) t (marks t) → added + x.added.0 < 2 ^ 64
    finding_small ei li prices ex =
        let most = added-within T ok marks row.h row.d (omega (arith, prices.0)) (t + 1) in
        omega (arith, (finding_touch ei li ex).added_is, most, ok.steps_within)

  pub finding_end : {last : List ℕ} {since : List (Option Priced)} {t : ℕ} {found : Found}
      → Finding T marks row found.decisions last since found.added.0 t → steps T ≤ t → FoundIn T marks row found
  unfolding mod_added
  finding_end {t} v le =
      let done : t ≡ steps T = omega (arith, v.tables.within) in
      record { touches = rw done at v.told; added_is = rw done at v.added_is }
