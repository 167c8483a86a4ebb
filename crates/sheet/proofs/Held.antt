-- The sheet that holds a value has that value; so what is written of a sheet that was read is what was read.
use Prim.Native.Nat.{ℕ}
use mathlib.Core.Path.{◌≡◌, ap, ◌∙◌}
use mathlib.Core.List.{List}
use lib.ListN.{length, take, drop}
use lib.Seq.{take-append_seam}
use Rattle.model.specs.Sheets.{SheetValue, most_segs, most_rows, most_steps}
use Rattle.sheet.specs.Reading.{accepted, read_forms}
use Rattle.model.specs.Values.{zeros, idles, zero_rows, blank_marks, padded, head_of, head_value_of, sheet_of, value_of}
use Rattle.sheet.specs.Writing.{sheet_text}
use Rattle.sheet.proofs.RoundTrip.{read-then-written}

-- a list at the front of blanks is the front
front : {A : Type 0} (xs blank : List A) → take (length xs) (padded xs blank) ≡ xs
unfolding padded
front xs blank = take-append_seam xs (drop (length xs) blank)

-- so is each list of the sheet, and the value is the same
pub held : (v : SheetValue) → value_of (sheet_of v) ≡ v
unfolding value_of head_value_of sheet_of head_of
held v =
    rw (
      front v.head.sizes (zeros most_segs),
      front v.head.rows (zero_rows most_rows),
      front v.head.warm (zeros most_segs),
      front v.entries (idles most_steps),
      front v.marks (blank_marks most_steps),
    )

-- the text of an accepted sheet, as it is held, is the bytes that were read
pub held-text : (lo hi : ℕ) (s : List ℕ) (v : SheetValue) → read_forms lo hi s ≡ accepted v → sheet_text (value_of (sheet_of v)) ≡ s
held-text lo hi s v e = ap sheet_text (held v) ∙ read-then-written lo hi s v e
