-- The sheet that stands for a din trace, or the refusal.
use Rattle.std.specs.Prelude.{ℕ, List, [], replicate}
use Rattle.model.specs.Sheets.{SheetValue}
use Rattle.model.specs.declared.Kind.TheVariants.{Time}
use Rattle.model.specs.declared.PriceRow.{PriceRow}
use Rattle.sheet.specs.Reading.{Outcome, accepted, rejected}
use Rattle.din.specs.Pages.{Touched, touches, refused, segment_count, segments_of, touched_with}

-- the sheet of the pages touched, with the rows: form 1, kind time, a=0, every size 1, no warm segment
abbrev pub sheet_of_pages : List ℕ → List PriceRow → SheetValue
sheet_of_pages ps rows =
    record {
      form = 1;
      head = record { kind = Time; a = 0; sizes = replicate (segment_count ps) 1; rows = rows; warm = [] };
      entries = segments_of ps;
      marks = [];
    }

-- the sheet of what the lines come to
abbrev pub sheet_of_touched : Touched → List PriceRow → Outcome
sheet_of_touched (touches ps) rows = accepted (sheet_of_pages ps rows)
sheet_of_touched (refused r) rows = rejected r

-- the sheet that stands for the trace, with the rows, or the refusal
unfoldable pub imported : ℕ → List ℕ → List PriceRow → Outcome
imported k trace rows = sheet_of_touched (touched_with k trace) rows
