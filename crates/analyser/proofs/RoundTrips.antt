-- Every accepted sheet, read and written again, has its old bytes.
use Rattle.std.specs.Prelude.{is_ok}
use Rattle.model.specs.Refusals.{value_or_zero}
use Prim.Native.Nat.{ℕ}
use mathlib.Core.Path.{◌≡◌, refl, sym, ap, ◌∙◌}
use mathlib.Core.List.{List}
use Rattle.model.specs.Sheets.{SheetValue, newest_form}
use Rattle.sheet.specs.Reading.{accepted, read_sheet}
use Rattle.model.specs.Values.{value_of, empty_sheet}
use Rattle.sheet.specs.Answers.{answer_of}
use Rattle.sheet.specs.Writing.{sheet_text}
use Rattle.sheet.proofs.Held.{held-text}
use Rattle.analyser.specs.RoundTrip.{sheet_read, RoundTripOf}
use Rattle.model.proofs.Places.{text-fits}

module _ (s : List ℕ) (v : SheetValue) (reads : read_sheet s ≡ accepted v) where
  -- what reading answers
  answer_is : answer_of (read_sheet s) ≡ answer_of (accepted v)
  answer_is = ap answer_of reads

  -- the text of the sheet that was read
  text_is : sheet_text (value_of (sheet_read s)) ≡ s
  unfolding answer_of
  text_is = ap (λ a. sheet_text (value_of (value_or_zero empty_sheet a))) answer_is ∙ held-text 1 newest_form s v reads

  pub round_trip : RoundTripOf s
  unfolding answer_of
  round_trip =
      record {
        read_accepted = ap is_ok answer_is;
        write_accepted = λ place fits. sym (rw text_is (text-fits s place refl fits).answer_is);
        same_bytes = λ place fits. sym (rw text_is (text-fits s place refl fits).place_is);
      }
