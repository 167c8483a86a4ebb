-- The records that are found for a list of so many: how many they are, what is answered, and the list with them at its front.
use Rattle.std.specs.Prelude.{Ok, Err}
use Prim.Native.Nat.{ℕ, ◌≤◌, ◌<◌}
use mathlib.Core.Path.{◌≡◌, refl, ap}
use mathlib.Core.Bool.{Bool, true, false}
use mathlib.Core.List.{List, ◌++◌}
use native.Mathlib.Omega.{arith}
use lib.Dec.{leb}
use lib.ListN.{length, take, drop}
use borrow.Author.Tests.{leb-true, leb-false, le-leb, lt-leb}
use Rattle.model.specs.Sheets.{SheetValue, newest_form, most_rows}
use Rattle.model.specs.declared.Refusal.{Refusal}
use Rattle.model.specs.declared.Refusal.TheVariants.{PlaceTooShort}
use Rattle.model.specs.declared.RowFigures.{RowFigures}
use Rattle.std.proofs.lemmas.List.{length-take}
use Rattle.model.specs.RowAnswers.{all_figures, figures_at}
use Rattle.model.proofs.Tables.{length-tabulate}
use Rattle.model.proofs.RowAnswers.{figures-front}
use Rattle.sheet.specs.Accepting.{on_sheet}
use Rattle.sheet.specs.Reading.{Outcome, accepted, rejected, read_sheet}
use Rattle.sheet.proofs.Accepted.{accepted-valid}
use Rattle.row_records.specs.Listed.{row_records, sheet_answer, sheet_after, list_answer, list_after}
use Rattle.row_records.specs.Held.{records_for, records_found}
use Rattle.row_records.specs.declared.Records.{Records}

-- r are the records of the sheet that the bytes s stand for, and no more than the list has, or the array
pub record RecordsOf (s : List ℕ) (room : ℕ) (r : Records) : Type 0 where
  pub sheet : SheetValue
  pub read : read_sheet s ≡ accepted sheet
  pub count_is : r.count ≡ length sheet.head.rows
  pub within : r.count ≤ room
  pub most : r.count ≤ most_rows
  pub records_are : take r.count r.figures ≡ row_records sheet

-- there are none for the refusal q: the sheet's, or the list is too short
pub data NoRecords (s : List ℕ) (room : ℕ) : (q : Refusal) → Type 0 where
  sheet_refused : {q : Refusal} → read_sheet s ≡ rejected q → NoRecords s room q
  too_short : (v : SheetValue) → read_sheet s ≡ accepted v → room < length v.head.rows → NoRecords s room PlaceTooShort

module _ (s : List ℕ) (room : ℕ) (v : SheetValue) (e : read_sheet s ≡ accepted v) where
  sheet-found : (r : Records) (b : Bool) → leb (length v.head.rows) room ≡ b → records_for v room ≡ Ok r → RecordsOf s room r
  unfolding records_for
  sheet-found r true t a =
      let most = (accepted-valid 1 newest_form (omega arith) s v e).rows.rows_within in
      let f = rw t at a in
      let same : r ≡ record { count = length v.head.rows; figures = all_figures v } = cc in
      rw same
      (record {
        sheet = v;
        read = e;
        count_is = refl;
        within = leb-true _ _ t;
        most = most;
        records_are = figures-front v most;
      })
  sheet-found r false t a = let f = rw t at a in absurd cc

  sheet-none : (q : Refusal) (b : Bool) → leb (length v.head.rows) room ≡ b → records_for v room ≡ Err q → NoRecords s room q
  unfolding records_for
  sheet-none q true t a = let f = rw t at a in absurd cc
  sheet-none q false t a =
      let f = rw t at a in
      let same : q ≡ PlaceTooShort = cc in
      rw same (too_short v e (leb-false _ _ t))

module _ (s : List ℕ) (room : ℕ) where
  pub found-ok : {r : Records} → records_found s room ≡ Ok r → RecordsOf s room r
  unfolding records_found
  found-ok {r} a = go (read_sheet s) refl a
    where
      go : (o : Outcome) → read_sheet s ≡ o → on_sheet o Err (λ v. records_for v room) ≡ Ok r → RecordsOf s room r
      go (accepted v) e a = sheet-found s room v e r _ refl a
      go (rejected q) e a = absurd cc

  pub found-none : {q : Refusal} → records_found s room ≡ Err q → NoRecords s room q
  unfolding records_found
  found-none {q} a = go (read_sheet s) refl a
    where
      go : (o : Outcome) → read_sheet s ≡ o → on_sheet o Err (λ v. records_for v room) ≡ Err q → NoRecords s room q
      go (accepted v) e a = sheet-none s room v e q _ refl a
      go (rejected p) e a = let same : p ≡ q = cc in sheet_refused (rw same at e)

-- the array has them all
pub counted : {s : List ℕ} {room : ℕ} {r : Records} → RecordsOf s room r → r.count ≤ length r.figures
counted {r = r} o =
    omega (
      arith,
      o.count_is,
      ap length o.records_are,
      length-take r.count r.figures,
      length-tabulate (length o.sheet.head.rows) (figures_at o.sheet),
    )

-- a list with the records at its front, and what is answered
module _ (s : List ℕ) (list : List RowFigures) where
  pub answered : {r : Records} → RecordsOf s (length list) r → Ok r.count ≡ list_answer s list
  unfolding list_answer sheet_answer
  answered {r} o = rw (o.read, le-leb (length o.sheet.head.rows) (length list) (omega (arith, o.within, o.count_is)), o.count_is) refl

  pub written : {r : Records} → RecordsOf s (length list) r → take r.count r.figures ++ drop r.count list ≡ list_after s list
  unfolding list_after sheet_after
  written {r} o =
      rw (o.read, le-leb (length o.sheet.head.rows) (length list) (omega (arith, o.within, o.count_is)), o.records_are, o.count_is) refl

  pub refused : {q : Refusal} → NoRecords s (length list) q → (Err q ≡ list_answer s list) × (list ≡ list_after s list)
  unfolding list_answer sheet_answer list_after sheet_after
  refused (sheet_refused e) = rw e (refl, refl)
  refused (too_short v e lt) = rw (e, lt-leb (length v.head.rows) (length list) lt) (refl, refl)
