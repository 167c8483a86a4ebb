-- Which traces in the din text form are taken, and what holds of the text that is given for one (request F-8).
use Rattle.std.specs.Prelude.{ℕ, ◌<◌, ◌≤◌, ◌≡◌, Bool, true, false, List, [], ◌∷◌, ◌↔◌, length, get_or, Ok}
use Rattle.std.proofs.Math.Option.{none, some}
use Rattle.model.specs.Sheets.{SheetValue, Valid, form_bytes, most_segs, most_steps}
use Rattle.sheet.specs.Reading.{read_sheet, accepted}
use Rattle.sheet.specs.Writing.{sheet_text}
use Rattle.din.specs.Import.{sheet_of_pages}
use Rattle.din.specs.Lines.{Lines, end, line, trace_lines, address_of}
use Rattle.din.specs.Pages.{place_in, firsts, least_power, largest_power}
use Rattle.din.specs.Traced.{line_count, pages_in, page_at, pages_before}
use Rattle.analyser.specs.Sheets.{import_result}

-- every line is well formed, so that it has an address, and a line feed ends the last
unfoldable pub well_formed : Lines → Bool
well_formed (end []) = true
well_formed (end (b ∷ s)) = false
well_formed (line s more) = elim (address_of s) [ none ↦ false | some address ↦ well_formed more ]

-- what the call takes: k from 8 to 24, every line well formed, at most 2,048 lines, and at most 256 different pages
pub record Importable (k : ℕ) (trace : List ℕ) : Type 0 where
  pub k_from : least_power ≤ k
  pub k_to : k ≤ largest_power
  pub formed : well_formed (trace_lines trace) ≡ true
  pub lines_within : line_count (trace_lines trace) ≤ most_steps
  pub pages_within : length (firsts (pages_in k trace)) ≤ most_segs

-- with the rows of bytes that read as a sheet, a text is given for these traces and for no others
abbrev pub GivenExactly : Type 0
GivenExactly = (trace : List ℕ) (k : ℕ) (s : List ℕ) (v : SheetValue) → read_sheet s ≡ accepted v
    → ((text : List ℕ) × (import_result trace k s ≡ Ok text)) ↔ Importable k trace

-- the imported sheet with the rows of the sheet v
abbrev pub imported_value : List ℕ → ℕ → SheetValue → SheetValue
imported_value trace k v = sheet_of_pages (pages_in k trace) v.head.rows

-- the segment that the line at place t touches
abbrev pub imported_segment : List ℕ → ℕ → SheetValue → ℕ → ℕ
imported_segment trace k v t = get_or (imported_value trace k v).entries t 0

-- what holds of the text that the call gives for a trace, with the rows of a run of bytes that reads as v
pub record ImportedFromBytes (trace : List ℕ) (k : ℕ) (v : SheetValue) (text : List ℕ) : Type 0 where
  -- it is that of the imported sheet; it is read as that sheet, a valid one of form 1, and has at most 20,012 bytes
  pub text_is : text ≡ sheet_text (imported_value trace k v)
  pub read_again : read_sheet text ≡ accepted (imported_value trace k v)
  pub valid : Valid (imported_value trace k v)
  pub within : length text ≤ form_bytes 1
  -- there is one reference for each line
  pub refs_counted : length (imported_value trace k v).entries ≡ line_count (trace_lines trace)
  -- two lines touch the same segment exactly where their addresses lie in one page
  pub same_segment : (t u : ℕ) → t < line_count (trace_lines trace) → u < line_count (trace_lines trace)
      → (imported_segment trace k v t ≡ imported_segment trace k v u) ↔ (page_at k trace t ≡ page_at k trace u)
  -- numbered by first appearance: the segment is the place of the page among those of the lines before, and the next number for a new page
  pub numbered : (t : ℕ) → t < line_count (trace_lines trace)
      → imported_segment trace k v t ≡ place_in (firsts (pages_before k trace t)) (page_at k trace t)
  pub new_page : (t : ℕ) → t < line_count (trace_lines trace) → ((u : ℕ) → u < t → page_at k trace u ≡ page_at k trace t → ⊥)
      → imported_segment trace k v t ≡ length (firsts (pages_before k trace t))
