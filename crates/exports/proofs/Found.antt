-- The records that are found for a place of numbers, eleven a row: they are those of the rows' result, and refused where it is refused.
use Rattle.std.specs.Prelude.{Result, Ok, Err}
use Prim.Native.Nat.{ℕ, ◌*◌, ◌/◌, ◌≤◌}
use mathlib.Core.Path.{◌≡◌, refl, ap, ◌∙◌}
use mathlib.Core.Bool.{Bool, true, false, cond}
use mathlib.Core.List.{List}
use native.Mathlib.Omega.{arith}
use lib.Dec.{leb}
use lib.ListN.{length, take}
use borrow.Author.Tests.{leb-true, leb-false}
use Rattle.model.specs.Places.{PlaceLeft}
use Rattle.model.specs.Sheets.{newest_form, SheetValue, most_rows}
use Rattle.model.specs.declared.Refusal.{Refusal}
use Rattle.model.specs.declared.Refusal.TheVariants.{PlaceTooShort}
use Rattle.sheet.specs.Reading.{Outcome, accepted, rejected, read_sheet}
use Rattle.sheet.proofs.Accepted.{accepted-valid}
use Rattle.model.proofs.Places.{text-short}
use Rattle.model.proofs.Tables.{length-tabulate}
use Rattle.model.specs.RowAnswers.{figures_at, all_figures}
use Rattle.sheet.specs.Accepting.{on_sheet}
use Rattle.model.proofs.RowAnswers.{figures-front}
use Rattle.row_records.specs.Listed.{row_records}
use Rattle.row_records.specs.Held.{records_for, records_found}
use Rattle.row_records.specs.declared.Records.{Records}
use Rattle.c_lists.specs.Figures.{figure_lists}
use Rattle.c_lists.proofs.RowNumbers.{rows_length}
use Rattle.exports.specs.Exported.{rows_result}

-- records that are to be written: no more than the array and the place have, and their numbers are the result
pub record Fitting (s place : List ℕ) (r : Records) : Type 0 where
  pub most : r.count ≤ most_rows
  pub room : 11 * r.count ≤ length place
  pub result : rows_result s ≡ Ok (figure_lists (take r.count r.figures))

-- a refusal: the result is refused with it, or the place is too short
abbrev pub Refusing : List ℕ → List ℕ → Refusal → Type 0
Refusing s place q = PlaceLeft (rows_result s) place place (Err q)

rows-counted : (v : SheetValue) → length (figure_lists (row_records v)) ≡ 11 * length v.head.rows
rows-counted v = rows_length (row_records v) ∙ ap (λ n. 11 * n) (length-tabulate (length v.head.rows) (figures_at v))

module _ (s place : List ℕ) (v : SheetValue) (e : read_sheet s ≡ accepted v) where
  fits_by : (b : Bool) → leb (length v.head.rows) (length place / 11) ≡ b → (r : Records)
      → Ok r ≡ cond b (Ok (record { count = length v.head.rows; figures = all_figures v })) (Err PlaceTooShort) → Fitting s place r
  unfolding rows_result
  fits_by true t r a =
      let most = (accepted-valid 1 newest_form (omega arith) s v e).rows.rows_within in
      let fits = leb-true (length v.head.rows) (length place / 11) t in
      let same : r ≡ record { count = length v.head.rows; figures = all_figures v } = cc in
      rw same (record { most = most; room = omega arith; result = rw (e, figures-front v most) })
  fits_by false t r a = absurd cc

  refuses-by : (b : Bool) → leb (length v.head.rows) (length place / 11) ≡ b → (q : Refusal) → (found : Result Records Refusal)
      → found ≡ cond b (Ok (record { count = length v.head.rows; figures = all_figures v })) (Err PlaceTooShort) → found ≡ Err q
      → Refusing s place q
  unfolding rows_result
  refuses-by true t q found a f = absurd cc
  refuses-by false t q found a f =
      let short = leb-false (length v.head.rows) (length place / 11) t in
      let n = rows-counted v in
      let same : q ≡ PlaceTooShort = cc in
      rw (e, same) (text-short (figure_lists (row_records v)) place (omega arith))

module _ (s place : List ℕ) where
  fits_on : (o : Outcome) → read_sheet s ≡ o → (r : Records) → Ok r ≡ on_sheet o Err (λ v. records_for v (length place / 11))
      → Fitting s place r
  unfolding records_for
  fits_on (accepted v) e r a = fits_by s place v e _ refl r a
  fits_on (rejected p) e r a = absurd cc

  pub found-fits : (r : Records) → Ok r ≡ records_found s (length place / 11) → Fitting s place r
  unfolding records_found
  found-fits r a = fits_on (read_sheet s) refl r a

  refuses-on : (o : Outcome) → read_sheet s ≡ o → (q : Refusal) → Err q ≡ on_sheet o Err (λ v. records_for v (length place / 11))
      → Refusing s place q
  unfolding records_for rows_result
  refuses-on (accepted v) e q a = refuses-by s place v e _ refl q (Err q) a refl
  refuses-on (rejected p) e q a = let same : q ≡ p = cc in rw (e, same) (record { answer_is = refl; place_is = refl })

  pub found-refuses : {q : Refusal} → Err q ≡ records_found s (length place / 11) → Refusing s place q
  unfolding records_found
  found-refuses {q} a = refuses-on (read_sheet s) refl q a
