-- How a sheet's value is held by value, and its limits.
use Rattle.std.specs.Prelude.{ℕ, Bool, false, List, ◌++◌, length, take, drop, replicate}
use Rattle.model.specs.Sheets.{HeadValue, SheetValue, idle, newest_form, form_bytes}
use Rattle.model.specs.Sheets.{largest_a, most_segs, largest_size, most_rows, largest_price, most_steps}
use Rattle.model.specs.declared.Kind.TheVariants.{Time}
use Rattle.model.specs.declared.PriceRow.{PriceRow}
use Rattle.model.specs.declared.Head.{Head}
use Rattle.model.specs.declared.Sheet.{Sheet}
use Rattle.model.specs.declared.SheetLimits.{SheetLimits}

-- the limits of a sheet
abbrev pub sheet_limits : SheetLimits
sheet_limits =
    record {
      form = newest_form;
      bytes = form_bytes 1;
      bytes_2 = form_bytes 2;
      bytes_3 = form_bytes 3;
      bytes_4 = form_bytes 4;
      a = largest_a;
      segs = most_segs;
      size = largest_size;
      rows = most_rows;
      price = largest_price;
      steps = most_steps;
      idle = idle;
    }

-- n zeros; n idle entries; n rows 0/0; n steps that modify nothing
unfoldable pub zeros : ℕ → List ℕ
zeros n = replicate n 0

unfoldable pub idles : ℕ → List ℕ
idles n = replicate n idle

unfoldable pub zero_rows : ℕ → List PriceRow
zero_rows n = replicate n (record { h = 0; d = 0 })

unfoldable pub blank_marks : ℕ → List Bool
blank_marks n = replicate n false

-- a list at the front of blank elements
unfoldable pub padded : {A : Type 0} → List A → List A → List A
padded xs blank = xs ++ drop (length xs) blank

-- the head with a value: its lists at the front of zeros
unfoldable pub head_of : HeadValue → Head
head_of v =
    record {
      kind = v.kind;
      a = v.a;
      segs = length v.sizes;
      sizes = padded v.sizes (zeros most_segs);
      rows = length v.rows;
      prices = padded v.rows (zero_rows most_rows);
      warm = length v.warm;
      holds = padded v.warm (zeros most_segs);
    }

-- the value of a head: as many sizes, rows and warm segments as it counts
unfoldable pub head_value_of : Head → HeadValue
head_value_of h =
    record {
      kind = h.kind;
      a = h.a;
      sizes = take h.segs h.sizes;
      rows = take h.rows h.prices;
      warm = take h.warm h.holds;
    }

-- the sheet with a value: its entries at the front of idle ones, its marks at the front of steps that modify nothing
unfoldable pub sheet_of : SheetValue → Sheet
sheet_of v =
    record {
      form = v.form;
      head = head_of v.head;
      steps = length v.entries;
      touches = padded v.entries (idles most_steps);
      marked = length v.marks;
      marks = padded v.marks (blank_marks most_steps);
    }

-- the value of a sheet: as many entries as it counts steps, and as many marks as it counts
unfoldable pub value_of : Sheet → SheetValue
value_of s =
    record {
      form = s.form;
      head = head_value_of s.head;
      entries = take s.steps s.touches;
      marks = take s.marked s.marks;
    }

-- no segments, no rows, no warm segments
unfoldable pub empty_head : Head
empty_head =
    record {
      kind = Time;
      a = 0;
      segs = 0;
      sizes = zeros most_segs;
      rows = 0;
      prices = zero_rows most_rows;
      warm = 0;
      holds = zeros most_segs;
    }

-- form 0, which no sheet has, no segments, no rows, no steps, no marks
unfoldable pub empty_sheet : Sheet
empty_sheet = record { form = 0; head = empty_head; steps = 0; touches = idles most_steps; marked = 0; marks = blank_marks most_steps }
