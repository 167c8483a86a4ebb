-- The text that the call gives for a trace is the imported sheet's: one reference for each line, and segments that stand for pages.
use Rattle.std.specs.Prelude.{Ok}
use Prim.Native.Nat.{ℕ, ◌<◌}
use mathlib.Core.Path.{◌≡◌, sym, ap, ◌∙◌}
use mathlib.Core.List.{List}
use native.Mathlib.Omega.{arith}
use lib.ListN.{length}
use Rattle.model.specs.Sheets.{SheetValue, RowsWithin, Valid, newest_form}
use Rattle.sheet.specs.Reading.{accepted, read_sheet}
use Rattle.sheet.specs.Writing.{sheet_text}
use Rattle.sheet.proofs.Accepted.{accepted-valid}
use Rattle.sheet.proofs.Lengths.{text-within}
use Rattle.din.specs.Import.{imported}
use Rattle.din.specs.Lines.{trace_lines}
use Rattle.din.specs.Traced.{line_count}
use Rattle.din.proofs.Results.{imported_is, imported_valid, imported_read, imported_refs, imported_number, imported_new, imported_same}
use Rattle.analyser.specs.Sheets.{imported_result, import_result}
use Rattle.analyser.specs.ImportedFromBytes.{imported_value, ImportedFromBytes}
use Rattle.analyser.proofs.Given.{given-accepted}

module _ (trace : List ℕ) (k : ℕ) (s text : List ℕ) (v : SheetValue) (reads : read_sheet s ≡ accepted v)
    (e : import_result trace k s ≡ Ok text) where
  result-is : import_result trace k s ≡ imported_result trace k v.head.rows
  unfolding import_result
  result-is = rw reads

  -- the import is accepted, and the text is that of its sheet
  both : (imported k trace v.head.rows ≡ accepted (imported_value trace k v)) × (text ≡ sheet_text (imported_value trace k v))
  both =
      let given = given-accepted (imported k trace v.head.rows) text (sym result-is ∙ e) in
      let same = imported_is k trace v.head.rows given.0 given.1 in
      (given.1 ∙ ap accepted same, given.2 ∙ ap sheet_text same)

  rows_within : RowsWithin v.head.rows
  rows_within = (accepted-valid 1 newest_form (omega arith) s v reads).rows

  valid-import : Valid (imported_value trace k v)
  valid-import = imported_valid k trace v.head.rows (imported_value trace k v) both.0 rows_within

  counted : length (imported_value trace k v).entries ≡ line_count (trace_lines trace)
  counted = imported_refs k trace v.head.rows (imported_value trace k v) both.0

  inside : {t : ℕ} → t < line_count (trace_lines trace) → t < length (imported_value trace k v).entries
  inside lt = rw counted lt

  pub imported-from-bytes : ImportedFromBytes trace k v text
  imported-from-bytes =
      record {
        text_is = both.1;
        read_again = ap read_sheet both.1 ∙ imported_read k trace v.head.rows (imported_value trace k v) both.0 rows_within;
        valid = valid-import;
        within = rw both.1 (text-within (imported_value trace k v) valid-import);
        refs_counted = counted;
        same_segment = λ t u lt lu.
            imported_same k trace v.head.rows (imported_value trace k v) both.0 t u (inside lt) (inside lu);
        numbered = λ t lt. imported_number k trace v.head.rows (imported_value trace k v) both.0 t (inside lt);
        new_page = λ t lt others. imported_new k trace v.head.rows (imported_value trace k v) both.0 t (inside lt) others;
      }
