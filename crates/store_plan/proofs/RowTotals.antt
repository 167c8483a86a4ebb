-- The modtotals of the rows of a run, one row after another, and the search for a touch that modifies.
use Prim.Native.Nat.{ℕ, zero, suc, ◌+◌, ◌≤◌, ◌<◌, ◌^◌}
use mathlib.Core.Path.{◌≡◌, refl, sym, ap, ◌∙◌}
use mathlib.Core.Bool.{Bool, true, false, cond}
use mathlib.Core.List.{List, [], ◌∷◌}
use native.Mathlib.Omega.{arith}
use borrow.Author.Tests.{lt-ltb, le-ltb, ltb-true, ltb-false}
use lib.Dec.{ltb}
use Rattle.std.specs.List.{list_any}
use Rattle.std.specs.Bool.{beq}
use lib.ListN.{length, get_or, set}
use Rattle.model.specs.Figures.{opttotal}
use Rattle.model.specs.Sheets.{marks_of, most_rows, trace_of, row_in, RunWithin, largest_price}
use Rattle.model.specs.Traces.{Trace}
use Rattle.model.specs.Values.{zeros, value_of}
use Rattle.model.specs.declared.PriceRow.{PriceRow}
use Rattle.model.proofs.Tables.{get_or-tabulate, tabulate-const, tabulate-set}
use Rattle.stores.specs.Modtotal.{mod_added, modtotal}
use Rattle.stores.proofs.Unmarked.{unmarked-total}
use Rattle.model.specs.Rows.{row_figures, zero_figures}
use Rattle.model.specs.Standing.{Standing}
use Rattle.model.specs.declared.RowFigures.{RowFigures}
use Rattle.model.specs.declared.Sheet.{Sheet}
use Rattle.model.proofs.Standing.{rows-counted, row_of}
use Rattle.model.specs.RowAnswers.{all_figures}
use Rattle.model.proofs.RowAnswers.{figures-at}
use Rattle.model.proofs.FigureBounds.{opttotal_within}
use Rattle.stores.proofs.Within.{mod_added-within}
use Rattle.store_plan.specs.inner.Modtotals.{some_mark, modtotal_in, first_modtotals}

-- ---- a touch that modifies

-- where none does, each mark is false
pub marks-false : (ms : List Bool) → some_mark ms ≡ false → (t : ℕ) → marks_of ms t ≡ false
unfolding some_mark
marks-false [] e t = refl
marks-false (true ∷ ms) e t = let z : ◌≡◌ {A = ℕ} 0 1 = cc in absurd (omega arith)
marks-false (false ∷ ms) e zero = refl
marks-false (false ∷ ms) e (suc t) = marks-false ms e t

-- the search for true finds one
pub some-searched : (ms : List Bool) → list_any (λ m. beq m true) ms ≡ some_mark ms
unfolding some_mark
some-searched [] = refl
some-searched (true ∷ ms) = refl
some-searched (false ∷ ms) = some-searched ms

-- ---- one row

module _ (T : Trace) (ms : List Bool) (row : PriceRow) where
  -- with a touch that modifies: what the touches add
  pub modtotal-adds : {total added : ℕ} → total ≡ opttotal T row.h row.d → added ≡ mod_added T (marks_of ms) row.h row.d
      → total + added ≡ modtotal T (marks_of ms) row.h row.d
  unfolding modtotal
  modtotal-adds e f = omega (arith, e, f)

  -- without: opttotal
  pub modtotal-plain : {total : ℕ} → total ≡ opttotal T row.h row.d → some_mark ms ≡ false
      → total ≡ modtotal T (marks_of ms) row.h row.d
  modtotal-plain e none = e ∙ sym (unmarked-total T (marks_of ms) (λ t lt. marks-false ms none t) row.h row.d)

-- ---- all rows

module _ (T : Trace) (marks : ℕ → Bool) (rows : List PriceRow) where
  -- the entry of row r
  abbrev entry_in : ℕ → ℕ → ℕ
  entry_in n r = cond (ltb r n) (modtotal_in T marks rows r) 0

  entry_is : (n r : ℕ) → r < n → entry_in n r ≡ modtotal_in T marks rows r
  entry_is n r lt = rw (lt-ltb r n lt)

  entry-none : (n r : ℕ) → n ≤ r → entry_in n r ≡ 0
  entry-none n r le = rw (le-ltb r n le)

  -- none passed
  pub modtotals-none : zeros most_rows ≡ first_modtotals T marks rows 0
  unfolding first_modtotals zeros
  modtotals-none = tabulate-const most_rows 0 (entry_in 0) (λ r lt. entry-none 0 r (omega arith))

  -- one row more
  pub modtotals-next : (n m : ℕ) (totals : List ℕ) → n < most_rows → totals ≡ first_modtotals T marks rows n → m
      ≡ modtotal_in T marks rows n
      → set totals n m ≡ first_modtotals T marks rows (n + 1)
  unfolding first_modtotals
  modtotals-next n m totals lt e f =
      rw (e, f, ← entry_is (n + 1) n (omega arith)) (tabulate-set most_rows (entry_in n) (entry_in (n + 1)) n lt other)
    where
      other : (r : ℕ) → r < most_rows → (r ≡ n → ⊥) → entry_in (n + 1) r ≡ entry_in n r
      other r l ne = go (ltb r n) refl
        where
          go : (b : Bool) → ltb r n ≡ b → entry_in (n + 1) r ≡ entry_in n r
          go true e = entry_is (n + 1) r (omega (arith, ltb-true r n e)) ∙ sym (entry_is n r (ltb-true r n e))
          go false e =
              let le = ltb-false r n e in
              entry-none (n + 1) r (omega arith) ∙ sym (entry-none n r le)

  -- and the entry of each
  pub modtotals-at : (n r : ℕ) → r < n → n ≤ most_rows → get_or (first_modtotals T marks rows n) r 0 ≡ modtotal_in T marks rows r
  unfolding first_modtotals
  modtotals-at n r lt most = get_or-tabulate most_rows (entry_in n) r 0 (omega arith) ∙ entry_is n r lt

-- opttotal of a row of a standing sheet among the figures of all rows
module _ (s : Sheet) (c : Standing s) where
  pub opttotal-of : (all : List RowFigures) → all ≡ all_figures (value_of s) → (r : ℕ) → r < s.head.rows
      → (get_or all r zero_figures).opttotal
      ≡ opttotal (trace_of (value_of s)) (row_in s.head.prices r).h (row_in s.head.prices r).d
  unfolding row_figures
  opttotal-of all e r lt =
      let here : r < length (value_of s).head.rows = omega (arith, rows-counted s c) in
      let at = ap (λ fs. get_or fs r zero_figures) e ∙ figures-at (value_of s) r zero_figures here c.valid.rows.rows_within in
      ap (λ f. f.opttotal) at ∙ rw (row_of s c r lt)

-- modtotal of a run within the limits has at most 15 digits
pub modtotal-within : (T : Trace) → RunWithin T → (marks : ℕ → Bool) (h d : ℕ) → h ≤ largest_price → d ≤ largest_price
    → modtotal T marks h d < 10 ^ 15
unfolding modtotal
modtotal-within T c marks h d high-h high-d = omega (arith, opttotal_within T c h d high-h high-d, mod_added-within T c marks h d high-h)
