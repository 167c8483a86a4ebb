-- The listing of a sheet, from the figures of all its rows.
use Prim.Native.Nat.{ℕ, ◌≤◌, ◌<◌}
use mathlib.Core.Path.{◌≡◌, sym, ap, ◌∙◌}
use mathlib.Core.Logic.{◌⊎◌, ⊎_elim}
use mathlib.Core.Bool.{Bool, true, false}
use mathlib.Core.List.{List}
use native.Mathlib.Omega.{arith}
use lib.Dec.{leb}
use lib.ListN.{length, take, get_or}
use Rattle.model.specs.Sheets.{SheetValue, trace_of, marks_of, most_rows}
use Rattle.model.specs.Standing.{Standing}
use Rattle.model.specs.Traces.{refs_of}
use Rattle.model.specs.Values.{value_of}
use Rattle.model.specs.declared.Sheet.{Sheet}
use Rattle.model.specs.Sums.{tabulate}
use Rattle.model.proofs.Standing.{segs-counted, rows-counted, steps-counted, form-is, row_of}
use Rattle.model.proofs.Tables.{length-tabulate, get_or-tabulate}
use Rattle.model.specs.RowAnswers.{figures_at, all_figures}
use Rattle.listing.specs.Listing.{listing, listing_bytes, listing_of}
use Rattle.listing.proofs.ListingMost.{listing-within}
use Rattle.listing.proofs.ListingParts.{listing-same}
use Rattle.model.proofs.RowAnswers.{figures-front}
use Rattle.stores.specs.Rows.{row_modtotal}
use Rattle.store_plan.specs.inner.Modtotals.{first_modtotals}
use Rattle.store_plan.proofs.RowTotals.{modtotals-at}

-- the listing of a sheet from its form, its counts, the figures of all rows and, where the form has them, their modtotals
pub listing-is : (v : SheetValue) (form steps segs rows : ℕ) (totals : List ℕ) → v.form ≡ form → length v.entries ≡ steps
    → length v.head.sizes ≡ segs → length v.head.rows ≡ rows → length v.head.rows ≤ most_rows
    → (leb 4 form ≡ true → (r : ℕ) → r < rows → get_or totals r 0 ≡ row_modtotal v r)
    → listing form (refs_of (trace_of v)) steps segs (take rows (all_figures v)) totals ≡ listing_of v
unfolding listing_of
listing-is v form steps segs rows totals f a b c most each =
    let n = length v.head.rows in
    rw (← f, ← a, ← b, ← c, figures-front v most)
    (listing-same v.form (refs_of (trace_of v)) (length v.entries) (length v.head.sizes) (tabulate n (figures_at v)) totals
    (tabulate n (row_modtotal v))
    (λ y r lt. let here : r < n = omega (arith, length-tabulate n (figures_at v)) in
    each (rw f at y) r (omega (arith, c)) ∙ sym (get_or-tabulate n (row_modtotal v) r 0 here)))

-- those of a standing sheet, from its counts
module _ (s : Sheet) (c : Standing s) where
  -- the modtotals of all rows are those of the sheet's value, or the form has none
  pub totals-of : (totals : List ℕ) (b : Bool) → b ≡ leb 4 s.form
      → ((totals ≡ first_modtotals (trace_of (value_of s)) (marks_of (value_of s).marks) s.head.prices s.head.rows) ⊎ (b ≡ false))
      → leb 4 s.form ≡ true → (r : ℕ) → r < s.head.rows → get_or totals r 0 ≡ row_modtotal (value_of s) r
  totals-of totals b e came y r lt =
      ⊎_elim
      (λ all. ap (λ ms. get_or ms r 0) all
      ∙ modtotals-at (trace_of (value_of s)) (marks_of (value_of s).marks) s.head.prices s.head.rows r lt c.rows_within
      ∙ rw (row_of s c r lt))
      (λ none. let z : ◌≡◌ {A = ℕ} 0 1 = cc in absurd (omega arith))
      came

  pub listing-of : (totals : List ℕ)
      → (leb 4 s.form ≡ true → (r : ℕ) → r < s.head.rows → get_or totals r 0 ≡ row_modtotal (value_of s) r)
      → listing s.form (refs_of (trace_of (value_of s))) s.steps s.head.segs (take s.head.rows (all_figures (value_of s))) totals
      ≡ listing_of (value_of s)
  listing-of totals each =
      listing-is (value_of s) s.form s.steps s.head.segs s.head.rows totals (form-is s c) (steps-counted s c)
      (segs-counted s c) (rows-counted s c) c.valid.rows.rows_within each

  -- and it is within the bytes of its form
  pub listing-fits : length (listing_of (value_of s)) ≤ listing_bytes s.form
  unfolding value_of
  listing-fits = listing-within (value_of s) c.valid
