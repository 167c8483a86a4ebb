-- The text of a sheet part after part.
use Prim.Native.Nat.{ℕ}
use mathlib.Core.Path.{◌≡◌, ap, ◌∙◌}
use mathlib.Core.Bool.{Bool, true}
use mathlib.Core.List.{List, [], ◌∷◌, ◌++◌, append-nil, map}
use lib.Dec.{leb}
use lib.ListN.{length}
use Rattle.decimal.specs.Decimal.{written}
use Rattle.text.specs.Keys.{kind_key, a_key, segs_key, size_key, rows_key, row_key, warm_key, hold_key, steps_key, refs_key, ref_key}
use Rattle.text.specs.Keys.{kind_word}
use Rattle.text.specs.Texts.{line_text, number_text, lines_text}
use Rattle.text.proofs.Runs.{lines-append, lines-map}
use Rattle.model.specs.Sheets.{HeadValue, SheetValue}
use Rattle.model.specs.declared.PriceRow.{PriceRow}
use Rattle.sheet.specs.Order.{sizes_part, prices_part, warm_part, warm_for, tables_part, head_part}
use Rattle.sheet.specs.Order.{refs_part, plain_part, steps_part, entries_part, run_part, body_part, form_lines, sheet_part}
use Rattle.sheet.specs.Parts.{Line, text_of}
use Rattle.sheet.specs.Touches.{Entries, touch_word, touches_text, touches_of}
use Rattle.sheet.specs.Values.{row_word, row_text}
use Rattle.sheet.specs.Writing.{sheet_text}

-- the text of a line, as `text_of` has it
abbrev line_of : Line → List ℕ
line_of l = line_text l.0 l.1

-- two lines and three parts
lines-parts : (k v l w : List ℕ) (xs ys zs : List Line) → text_of (((k, v) ∷ []) ++ (((l, w) ∷ []) ++ (xs ++ (ys ++ (zs ++ [])))))
    ≡ line_text k v ++ (line_text l w ++ (text_of xs ++ (text_of ys ++ text_of zs)))
unfolding lines_text
lines-parts k v l w xs ys zs = rw (append-nil zs, lines-append line_of xs (ys ++ zs), lines-append line_of ys zs)

-- a count, and a line for each element
counted-text : {A : Type 0} (count key : List ℕ) (word : A → List ℕ) (xs : List A)
    → text_of (((count, written (length xs)) ∷ []) ++ map (λ x. (key, word x)) xs)
    ≡ number_text count (length xs) ++ lines_text (λ x. line_text key (word x)) xs
unfolding lines_text
counted-text count key word xs = rw (lines-map line_of (λ x. (key, word x)) xs)

-- segs= and the sizes
pub sizes-text : (xs : List ℕ) → text_of (sizes_part.lines xs) ≡ number_text segs_key (length xs) ++ lines_text (number_text size_key) xs
unfolding sizes_part
sizes-text xs = counted-text segs_key size_key written xs

-- rows= and the rows
pub prices-text : (qs : List PriceRow) → text_of (prices_part.lines qs) ≡ number_text rows_key (length qs) ++ lines_text row_text qs
unfolding prices_part
prices-text qs = counted-text rows_key row_key row_word qs

-- warm= and the warm segments, from form 3 on
pub warm-text : (segs : ℕ) (xs : List ℕ)
    → text_of ((warm_for true segs).lines xs) ≡ number_text warm_key (length xs) ++ lines_text (number_text hold_key) xs
unfolding warm_part
warm-text segs xs = counted-text warm_key hold_key written xs

-- refs= and the references
pub refs-text : (segs : ℕ) (xs : List ℕ)
    → text_of ((refs_part segs).lines xs) ≡ number_text refs_key (length xs) ++ lines_text (number_text ref_key) xs
unfolding refs_part
refs-text segs xs = counted-text refs_key ref_key written xs

-- as the entries of form 1
pub plain-text : (segs : ℕ) (e : Entries)
    → text_of ((plain_part segs).lines e) ≡ number_text refs_key (length e.entries) ++ lines_text (number_text ref_key) e.entries
unfolding plain_part
plain-text segs e = rw (append-nil ((refs_part segs).lines e.entries)) (refs-text segs e.entries)

-- steps=, refs= and the touches of form 2 on
pub steps-text : (letters : Bool) (segs : ℕ) (e : Entries) → text_of ((steps_part letters segs).lines e)
    ≡ number_text steps_key (length e.entries) ++ (number_text refs_key (length (touches_of e)) ++ touches_text (touches_of e))
unfolding steps_part lines_text
steps-text letters segs e = rw (lines-map line_of (λ x. (ref_key, touch_word x)) (touches_of e))

-- the head
pub head-text : (taken later : Bool) (h : HeadValue) → text_of ((head_part taken later).lines h)
    ≡ line_text kind_key (kind_word h.kind)
    ++ (number_text a_key h.a
    ++ (text_of (sizes_part.lines h.sizes)
    ++ (text_of (prices_part.lines h.rows) ++ text_of ((warm_for later (length h.sizes)).lines h.warm))))
unfolding head_part tables_part
head-text taken later h =
    lines-parts kind_key (kind_word h.kind) a_key (written h.a) (sizes_part.lines h.sizes) (prices_part.lines h.rows)
    ((warm_for later (length h.sizes)).lines h.warm)

-- the text of the entries of a form
unfoldable pub entries_text : ℕ → HeadValue → Entries → List ℕ
entries_text form head e = text_of ((entries_part (leb 2 form) (leb 4 form) (length head.sizes)).lines e)

-- the entries of a sheet's value
abbrev pub entries_in : SheetValue → Entries
entries_in v = record { entries = v.entries; marks = v.marks }

-- the whole
pub sheet-text : (v : SheetValue)
    → sheet_text v
    ≡ text_of (form_lines v.form)
    ++ (text_of ((head_part true (leb 3 v.form)).lines v.head) ++ entries_text v.form v.head (entries_in v))
unfolding sheet_text sheet_part body_part run_part head_part entries_text
sheet-text v =
    let entries = (entries_part (leb 2 v.form) (leb 4 v.form) (length v.head.sizes)).lines (entries_in v) in
    lines-append line_of (form_lines v.form) _
    ∙ ap (λ t. text_of (form_lines v.form) ++ t)
    (rw (append-nil entries) (lines-append line_of ((head_part true (leb 3 v.form)).lines v.head) entries))
