-- A sheet in parts: the order of its lines, once. Reading goes along it; the text of a sheet and what a reader shows are made from it.
-- The lines from the top down, each with its range, its refusals in their order, and the forms that have it. Before all lines stands
-- refusal 1, after them 6. One sheet of each form is written out in proofs/OrderExamples.antt.
--
--   line            how often   range                                                     refusals      forms
--   form=n          once        2 to 4, and made for the call                             2, 3, 4       2 to 4
--   kind=word       once        time or space; 4 where the call is not made for form 1    2, 3, 4       1 to 4
--   a=n             once        0 to 255                                                  2, 3, 4       1 to 4
--   segs=n          once        1 to 256                                                  2, 3, 4       1 to 4
--   size=n          segs        1 to 4,095                                                2, 3, 4       1 to 4
--   rows=n          once        1 to 64                                                   2, 3, 4       1 to 4
--   row=h/d         rows        h 0 to 65,535, d 1 to 65,535, h/d above the one before    2, 3, 4, 5    1 to 4
--   warm=n          once        0 to segs                                                 2, 3, 4       3, 4
--   hold=i          warm        below segs, above the one before                          2, 3, 4, 19   3, 4
--   steps=n         once        0 to 2,048                                                2, 3, 4       2 to 4
--   refs=n          once        0 to 2,048; from form 2 on 0 to steps                     2, 3, 4       1 to 4
--   ref=i           refs        below segs                                                2, 3, 4       1
--   ref=i@t         refs        i below segs, t above the one before, at most steps       2, 3, 4, 16   2 to 4
--   ref=i@tw        refs        the same; the touch modifies                              2, 3, 4, 16   4
use Rattle.std.specs.Prelude.{ℕ, ◌-◌, max, Bool, cond, List, [], ◌∷◌, ◌++◌, map, leb, length, take}
use Rattle.std.proofs.Math.Option.{none}
use Rattle.decimal.specs.Decimal.{written}
use Rattle.text.specs.Keys.{form_key, kind_key, a_key, segs_key, size_key, rows_key, row_key, warm_key, hold_key}
use Rattle.text.specs.Keys.{steps_key, refs_key, ref_key, kind_word}
use Rattle.model.specs.Sheets.{HeadValue, SheetValue, largest_a, most_segs, largest_size, most_rows, most_steps, newest_form}
use Rattle.model.specs.declared.Kind.{Kind}
use Rattle.model.specs.declared.PriceRow.{PriceRow}
use Rattle.model.specs.declared.Refusal.TheVariants.{OutOfRange}
use Rattle.sheet.specs.Lines.{read, refused, and_then, same_bytes, number_line, number_lines}
use Rattle.sheet.specs.Parts.{Line, Part, whole, then, counted}
use Rattle.sheet.specs.Touches.{Entries, touch_word, touches_of, entry_lines}
use Rattle.sheet.specs.Values.{kind_line, row_lines, row_word}
use Rattle.sheet.specs.Warm.{hold_lines}

-- ---- lines

-- a line with a number lo to hi
abbrev pub number_part : List ℕ → ℕ → ℕ → Part ℕ
number_part key lo hi = record { lines = λ n. (key, written n) ∷ []; reads = number_line key lo hi }

-- n such lines
abbrev pub numbers_part : List ℕ → ℕ → ℕ → ℕ → Part (List ℕ)
numbers_part key lo hi n = record { lines = λ xs. map (λ x. (key, written x)) xs; reads = number_lines key lo hi n }

-- n lines row=
abbrev pub rows_part : ℕ → Part (List PriceRow)
rows_part n = record { lines = λ qs. map (λ q. (row_key, row_word q)) qs; reads = row_lines n none }

-- n lines hold=, each a segment below segs
abbrev pub holds_part : ℕ → ℕ → Part (List ℕ)
holds_part segs n = record { lines = λ xs. map (λ x. (hold_key, written x)) xs; reads = hold_lines segs n none }

-- ---- a sheet

-- segs= and the sizes
unfoldable pub sizes_part : Part (List ℕ)
sizes_part = counted (number_part segs_key 1 most_segs) (numbers_part size_key 1 largest_size)

-- rows= and the rows
unfoldable pub prices_part : Part (List PriceRow)
prices_part = counted (number_part rows_key 1 most_rows) rows_part

-- warm= and the warm segments
unfoldable pub warm_part : ℕ → Part (List ℕ)
warm_part segs = counted (number_part warm_key 0 segs) (holds_part segs)

-- the warm segments of a sheet of form 3 on; forms 1 and 2 have none
abbrev pub warm_for : Bool → ℕ → Part (List ℕ)
warm_for later segs = cond later (warm_part segs) (whole [])

-- the sizes, the rows and the warm segments of a head, after its kind and a
unfoldable pub tables_part : Bool → Kind → ℕ → Part HeadValue
tables_part later kind a =
    then sizes_part (λ h. h.sizes) λ sizes.
    then prices_part (λ h. h.rows) λ rows.
    then (warm_for later (length sizes)) (λ h. h.warm) λ warm.
    whole (record { kind = kind; a = a; sizes = sizes; rows = rows; warm = warm })

-- the line kind= of a sheet whose form a call takes or does not: refusal 4 where it does not
abbrev pub kind_for : Bool → Part Kind
kind_for taken =
    record {
      lines = λ k. (kind_key, kind_word k) ∷ [];
      reads = λ s. and_then (kind_line s) (λ kind rest. cond taken (read kind rest) (refused OutOfRange));
    }

-- the head: kind=, a=, the sizes, the rows and, from form 3 on, the warm segments
unfoldable pub head_part : Bool → Bool → Part HeadValue
head_part taken later =
    then (kind_for taken) (λ h. h.kind) λ kind.
    then (number_part a_key 0 largest_a) (λ h. h.a) λ a.
    tables_part later kind a

-- refs= and the references of form 1, each below segs: every step has a touch
unfoldable pub refs_part : ℕ → Part (List ℕ)
refs_part segs = counted (number_part refs_key 0 most_steps) (numbers_part ref_key 0 (segs - 1))

-- the entries of form 1: it has no marks
unfoldable pub plain_part : ℕ → Part Entries
plain_part segs = then (refs_part segs) (λ e. e.entries) λ refs. whole (record { entries = refs; marks = [] })

-- n lines ref= of form 2 on, segment and step, as the entries of the steps and, in a form that has the letter, their marks
abbrev pub touches_part : Bool → ℕ → ℕ → ℕ → Part Entries
touches_part letters segs steps n =
    record { lines = λ e. map (λ x. (ref_key, touch_word x)) (touches_of e); reads = entry_lines letters segs steps n }

-- steps=, refs= and the touches of form 2 on
unfoldable pub steps_part : Bool → ℕ → Part Entries
steps_part letters segs =
    then (number_part steps_key 0 most_steps) (λ e. length e.entries) λ steps.
    then (number_part refs_key 0 steps) (λ e. length (touches_of e)) λ n.
    touches_part letters segs steps n

-- the entries of a sheet of form 1, or of form 2 on; form 4 has the letter w
abbrev pub entries_part : Bool → Bool → ℕ → Part Entries
entries_part later letters segs = cond later (steps_part letters segs) (plain_part segs)

-- the entries of a sheet of a form, after its head
unfoldable pub run_part : ℕ → HeadValue → Part SheetValue
run_part form head =
    then (entries_part (leb 2 form) (leb 4 form) (length head.sizes)) (λ v. record { entries = v.entries; marks = v.marks }) λ e.
    whole (record { form = form; head = head; entries = e.entries; marks = e.marks })

-- the lines after the form line: the head, then the entries. A call takes forms from lo on
unfoldable pub body_part : ℕ → ℕ → Part SheetValue
body_part lo form = then (head_part (leb lo form) (leb 3 form)) (λ v. v.head) (run_part form)

-- the form line, which a sheet of form 2 on has first
abbrev pub form_lines : ℕ → List Line
form_lines form = cond (leb 2 form) ((form_key, written form) ∷ []) []

-- a sheet for a call that takes the forms lo to hi. Bytes that begin with form= have a form line; all others are read as form 1
unfoldable pub sheet_part : ℕ → ℕ → Part SheetValue
sheet_part lo hi =
    record {
      lines = λ v. form_lines v.form ++ (body_part lo v.form).lines v;
      reads = λ s.
          cond (same_bytes (take 5 s) form_key)
          (and_then (number_line form_key (max 2 lo) hi s) (λ form rest. (body_part lo form).reads rest))
          ((body_part lo 1).reads s);
    }

-- the lines of a sheet
abbrev pub lines_of : SheetValue → List Line
lines_of v = (sheet_part 1 newest_form).lines v
