-- The two tables of a pass, of last touches and of excesses: what one step more makes of them, and what they tell of a touch.
use Prim.Native.Nat.{ℕ, suc, ◌+◌, ◌*◌, ◌^◌, ◌≤◌, ◌<◌}
use mathlib.Core.Path.{◌≡◌, refl, sym, ap, ◌∙◌}
use mathlib.Core.Bool.{Bool, cond}
use mathlib.Core.List.{List}
use native.Mathlib.Omega.{arith}
use native.Mathlib.Numerals.{add-one}
use lib.ListN.{get_or, set, replicate}
use Rattle.std.specs.Prelude.{Option, None}
use Rattle.model.specs.declared.Priced.{Priced}
use borrow.Author.Tests.{ne_eqb}
use Rattle.model.specs.Figures.{kept}
use Rattle.model.specs.LastTouches.{last_table}
use Rattle.model.specs.Sheets.{RunWithin}
use Rattle.model.specs.Traces.{Trace, segs, steps, entry, size_of, swap_of}
use Rattle.model.specs.declared.PriceRow.{PriceRow}
use Rattle.model.proofs.LastTouches.{last_table-step, last_table-idle}
use Rattle.model.proofs.Tables.{get_or-tabulate, tabulate-const, tabulate-eq, tabulate-set}
use Rattle.model.proofs.Touches.{touched-at, touched-is, idle-touched, entry-ref}
use Rattle.stores.specs.Modtotal.{excess, since_mark, since_through, store_cost, joins_before}
use Rattle.store_plan.specs.declared.mod_pass.touching.Touched.{Touched}
use Rattle.store_plan.specs.inner.Touches.{held_since, since_table, SinceBelow, since_after, touch_by}
use Rattle.store_plan.proofs.Bounds.{since-within, amount-below}
use Rattle.store_plan.proofs.Touches.{held-plus, held-after, held-store, held-joins, excess-mark, kept-mark}

module _ (T : Trace) (marks : ℕ → Bool) (row : PriceRow) where
  since_at : (t i : ℕ) → i < 256 → get_or (since_table T marks row t) i None ≡ held_since (since_mark T marks row.h row.d t i)
  unfolding since_table
  since_at t i lt = get_or-tabulate 256 (λ i. held_since (since_mark T marks row.h row.d t i)) i None lt

  -- before step 1 no segment has had a modifying touch
  since_start : replicate 256 None ≡ since_table T marks row 0
  unfolding since_table since_mark
  since_start = tabulate-const 256 None (λ i. held_since (since_mark T marks row.h row.d 0 i)) (λ i lt. refl)

  -- a touch changes the number of its segment, a step without a touch none
  since-touch : (t : ℕ) → entry T t < segs T → segs T ≤ 256
      → set (since_table T marks row t) (entry T t) (since_after (marks t) (held_since (since_through T marks row.h row.d t (entry T t))))
      ≡ since_table T marks row (suc t)
  unfolding since_table since_mark
  since-touch t lt few =
      ap (λ (x : Option Priced). set (since_table T marks row t) (entry T t) x) here
      ∙ tabulate-set 256 (λ i. held_since (since_mark T marks row.h row.d t i))
      (λ i. held_since (since_mark T marks row.h row.d (suc t) i))
      (entry T t) (omega arith) (λ i l other. rw (touched-is T t i lt ∙ ne_eqb (entry T t) i (λ same. other (sym same))))
    where
      here : since_after (marks t) (held_since (since_through T marks row.h row.d t (entry T t)))
          ≡ held_since (since_mark T marks row.h row.d (suc t) (entry T t))
      here = rw (touched-at T t lt) (held-after (marks t) (since_through T marks row.h row.d t (entry T t)))

  since-idle : (t : ℕ) → segs T ≤ entry T t → since_table T marks row t ≡ since_table T marks row (suc t)
  unfolding since_table since_mark
  since-idle t le =
      tabulate-eq 256 (λ i. held_since (since_mark T marks row.h row.d t i)) (λ i. held_since (since_mark T marks row.h row.d (suc t) i))
      (λ i lt. rw (idle-touched T t i le))

-- after t steps: the tables of last touches and of excesses are those of t steps
pub record Tables (T : Trace) (marks : ℕ → Bool) (row : PriceRow) (last : List ℕ) (since : List (Option Priced)) (t : ℕ) : Type 0 where
  pub within : t ≤ steps T
  pub last_is : last ≡ last_table T t
  pub since_is : since ≡ since_table T marks row t

-- what a touch of segment i in the step at place t gives
pub record Told (T : Trace) (marks : ℕ → Bool) (row : PriceRow) (t i : ℕ) (x : Touched) : Type 0 where
  pub since_is : x.since ≡ since_after (marks t) (held_since (since_through T marks row.h row.d t i))
  pub added_is : x.added.0 ≡ cond (marks t) (store_cost T marks row.h row.d t i) 0
  pub kept_is : x.decision.kept ≡ kept T row.h row.d t i
  pub joined_is : x.decision.joined ≡ joins_before T marks row.h row.d t i

module _ {T : Trace} (ok : RunWithin T) {marks : ℕ → Bool} {row : PriceRow} where
  pub tables_start : {last : List ℕ} {since : List (Option Priced)} → last ≡ last_table T 0
      → since ≡ replicate 256 None → Tables T marks row last since 0
  tables_start el es = record { within = omega arith; last_is = el; since_is = es ∙ since_start T marks row }

  module _ {last : List ℕ} {since : List (Option Priced)} {t : ℕ} (v : Tables T marks row last since t) (lt : t < steps T) where
    pub tables_told : {i : ℕ} {x : Touched} → i < segs T
        → x ≡ touch_by T.kind T.a row (size_of T i) (get_or last i 0) (get_or since i None) t (marks t) → Told T marks row t i x
    unfolding store_cost joins_before
    tables_told {i} li ex =
        rw (
          ex,
          v.last_is,
          v.since_is,
          since_at T marks row t i few,
          kept-mark T row t i few short,
          excess-mark T row t i few short,
          held-plus (since_mark T marks row.h row.d t i) (excess T row.h row.d t i),
        )
        (record {
          since_is = refl;
          added_is = held-store (marks t) (row.h * swap_of T i) (since_through T marks row.h row.d t i);
          kept_is = refl;
          joined_is = held-joins (row.h * swap_of T i) (since_through T marks row.h row.d t i);
        })
      where
        few : i < 256
        few = omega (arith, ok.segs_within)

        short : t < 65535
        short = omega (arith, ok.steps_within)

    -- the number of a segment is small
    pub tables_small : (i : ℕ) → i < segs T → (row.h < 2 ^ 16) × (row.d < 2 ^ 16) → SinceBelow (2 ^ 62) (get_or since i None)
    tables_small i li prices =
        rw (v.since_is, since_at T marks row t i (omega (arith, ok.segs_within)))
        (amount-below (since_mark T marks row.h row.d t i) (2 ^ 62)
        (omega (arith, since-within T ok marks row prices t i v.within li, ok.steps_within)))

    -- a touch of segment i
    pub tables_touch : {i : ℕ} {x : Touched} → i ≡ get_or T.entries t 0 → i < segs T → Told T marks row t i x
        → Tables T marks row (set last i (t + 1)) (set since i x.since) (t + 1)
    tables_touch {i} ei li told =
        let e : entry T t ≡ i = entry-ref T t lt ∙ sym ei in
        record {
          within = omega arith;
          last_is = rw (v.last_is, add-one t, ← e) (last_table-step T t (omega (arith, e)) ok.segs_within);
          since_is = rw (v.since_is, told.since_is, add-one t, ← e) (since-touch T marks row t (omega (arith, e)) ok.segs_within);
        }

    -- a step without a touch
    pub tables_idle : segs T ≤ get_or T.entries t 0 → Tables T marks row last since (t + 1)
    tables_idle idle =
        let e : entry T t ≡ get_or T.entries t 0 = entry-ref T t lt in
        record {
          within = omega arith;
          last_is = rw (add-one t) (v.last_is ∙ last_table-idle T t (omega (arith, e)));
          since_is = rw (add-one t) (v.since_is ∙ since-idle T marks row t (omega (arith, e)));
        }
