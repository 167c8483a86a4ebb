-- What a sheet says, and its limits.
use Rattle.std.specs.Prelude.{ℕ, suc, ◌*◌, ◌≤◌, ◌<◌, ◌≡◌, ◌⊎◌, Bool, true, false, cond, List, [], ◌∷◌, length, get_or, eqb}
use Rattle.model.specs.Traces.{Trace, segs, steps, size_of, entry}
use Rattle.model.specs.Figures.{optmem, load}
use Rattle.model.specs.declared.Kind.{Kind}
use Rattle.model.specs.declared.PriceRow.{PriceRow}

-- the head of a sheet: kind, a, the sizes, the rows, and the warm segments, which are loaded before step 1 (request F-6)
pub record HeadValue : Type 0 where
  pub kind : Kind
  pub a : ℕ
  pub sizes : List ℕ
  pub rows : List PriceRow
  pub warm : List ℕ

-- a sheet's value: its form, its head, the entry of each step, a segment or `idle` (request F-3), and in form 4 for each step whether its
-- touch modifies the segment (request F-13). Every step of a sheet of form 1 has a touch
pub record SheetValue : Type 0 where
  pub form : ℕ
  pub head : HeadValue
  pub entries : List ℕ
  pub marks : List Bool

-- the entry of a step without a touch
abbrev pub idle : ℕ
idle = 65535

-- the newest form of a sheet
abbrev pub newest_form : ℕ
newest_form = 4

-- the limits: the most bytes by the form, the largest a, the most segments, the largest size, the most rows, the largest price, the most
-- steps
abbrev pub form_bytes : ℕ → ℕ
form_bytes form = cond (eqb form 2) 29163 (cond (eqb form 3) 31366 (cond (eqb form 4) 33414 20012))

abbrev pub largest_a : ℕ
largest_a = 255

abbrev pub most_segs : ℕ
most_segs = 256

abbrev pub largest_size : ℕ
largest_size = 4095

abbrev pub most_rows : ℕ
most_rows = 64

abbrev pub largest_price : ℕ
largest_price = 65535

abbrev pub most_steps : ℕ
most_steps = 2048

-- segment i is one of those listed
unfoldable pub listed : List ℕ → ℕ → Bool
listed [] i = false
listed (x ∷ xs) i = cond (eqb x i) true (listed xs i)

-- the run of a kind, a weight a, sizes, warm segments and the entry of each step: a warm segment counts as touched and held at step 0
-- without cost (F-6, in place of document 01's empty memory)
abbrev pub run_of : Kind → ℕ → List ℕ → List ℕ → List ℕ → Trace
run_of kind a sizes warm entries = record { kind = kind; a = a; sizes = sizes; start = listed warm; entries = entries }

-- the run of a head and the entry of each step
abbrev pub head_run : HeadValue → List ℕ → Trace
head_run head entries = run_of head.kind head.a head.sizes head.warm entries

-- the run that a sheet records
abbrev pub trace_of : SheetValue → Trace
trace_of s = head_run s.head s.entries

-- the marks of a list with one for each step: the touch in the step at place t modifies; a step beyond the list has none
abbrev pub marks_of : List Bool → ℕ → Bool
marks_of marks t = get_or marks t false

-- row r of a list of rows, and of a sheet
abbrev pub row_in : List PriceRow → ℕ → PriceRow
row_in rows r = get_or rows r (record { h = 0; d = 0 })

abbrev pub row_at : SheetValue → ℕ → PriceRow
row_at s r = row_in s.head.rows r

-- the threshold of the second row exceeds that of the first, by cross products
abbrev pub Exceeds : PriceRow → PriceRow → Type 0
Exceeds p q = p.h * q.d < q.h * p.d

-- rows within the limits, their thresholds ascending
pub record RowsWithin (rows : List PriceRow) : Type 0 where
  pub some_rows : 1 ≤ length rows
  pub rows_within : length rows ≤ most_rows
  pub h_within : (r : ℕ) → r < length rows → (row_in rows r).h ≤ largest_price
  pub some_d : (r : ℕ) → r < length rows → 1 ≤ (row_in rows r).d
  pub d_within : (r : ℕ) → r < length rows → (row_in rows r).d ≤ largest_price
  pub ascending : (r : ℕ) → suc r < length rows → Exceeds (row_in rows r) (row_in rows (suc r))

-- a run within the limits
pub record RunWithin (T : Trace) : Type 0 where
  pub a_within : T.a ≤ largest_a
  pub some_segs : 1 ≤ segs T
  pub segs_within : segs T ≤ most_segs
  pub some_size : (i : ℕ) → i < segs T → 1 ≤ size_of T i
  pub size_within : (i : ℕ) → i < segs T → size_of T i ≤ largest_size
  pub steps_within : steps T ≤ most_steps
  pub entry_within : (t : ℕ) → t < steps T → (entry T t < segs T) ⊎ (entry T t ≡ idle)

-- warm segments of n segments: their numbers ascend
pub record WarmWithin (n : ℕ) (warm : List ℕ) : Type 0 where
  pub below : (k : ℕ) → k < length warm → get_or warm k 0 < n
  pub ascending : (k : ℕ) → suc k < length warm → get_or warm k 0 < get_or warm (suc k) 0

-- a sheet's value within the limits: its form is known, its rows, its run, a sheet of form 1 has a touch in every step, its warm segments,
-- of which forms 1 and 2 have none, and its marks, one for each step, on touches alone, of which forms 1 to 3 have none
pub record Valid (s : SheetValue) : Type 0 where
  pub some_form : 1 ≤ s.form
  pub form_within : s.form ≤ newest_form
  pub rows : RowsWithin s.head.rows
  pub run : RunWithin (trace_of s)
  pub whole : s.form ≡ 1 → (t : ℕ) → t < length s.entries → entry (trace_of s) t < length s.head.sizes
  pub warm : WarmWithin (length s.head.sizes) s.head.warm
  pub cold : s.form ≤ 2 → s.head.warm ≡ []
  pub marked : 4 ≤ s.form → length s.marks ≡ length s.entries
  pub modifying : (t : ℕ) → marks_of s.marks t ≡ true → entry (trace_of s) t < length s.head.sizes
  pub unmarked : s.form ≤ 3 → s.marks ≡ []

-- optmem and load of row r of a sheet
abbrev pub row_optmem : SheetValue → ℕ → ℕ
row_optmem s r = optmem (trace_of s) (row_at s r).h (row_at s r).d

abbrev pub row_load : SheetValue → ℕ → ℕ
row_load s r = load (trace_of s) (row_at s r).h (row_at s r).d
