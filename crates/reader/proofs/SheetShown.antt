-- A reader that goes along an accepted sheet shows the key and the value of each of its lines in order, and ends at its end.
use Prim.Native.Nat.{ℕ, suc, ◌+◌, ◌<◌}
use mathlib.Core.Path.{◌≡◌, refl, sym, ap, ◌∙◌}
use mathlib.Core.Bool.{Bool, true, false, cond}
use mathlib.Core.List.{List, [], ◌∷◌, ◌++◌, append-nil, map}
use native.Mathlib.Omega.{arith}
use borrow.Author.Tests.{le-leb, lt-leb, leb-true, leb-false}
use lib.Dec.{leb}
use lib.ListN.{length, get_or, length-append, length-map}
use Rattle.decimal.specs.Decimal.{written}
use Rattle.model.specs.Sheets.{SheetValue}
use Rattle.model.specs.declared.Kind.{Kind}
use Rattle.model.specs.declared.Kind.TheVariants.{Time, Space}
use Rattle.model.specs.declared.PriceRow.{PriceRow}
use Rattle.text.specs.Keys.{line_feed, slash, at_sign, mark_letter, form_key, size_key, row_key, hold_key, ref_key, kind_word}
use Rattle.sheet.specs.Lines.{split_at}
use Rattle.sheet.specs.Order.{sizes_part, prices_part, warm_part, warm_for, tables_part, head_part, refs_part, plain_part, steps_part}
use Rattle.sheet.specs.Order.{entries_part}
use Rattle.sheet.specs.Order.{run_part, body_part, form_lines, sheet_part, lines_of}
use Rattle.sheet.specs.Parts.{Line}
use Rattle.sheet.specs.Reading.{accepted, read_forms}
use Rattle.sheet.specs.Touches.{Touch, Entries, step_word, touch_word, touches_of}
use Rattle.sheet.specs.Values.{row_word}
use Rattle.sheet.specs.Writing.{sheet_text}
use Rattle.sheet.proofs.Parsing.{lacks, lacks-append}
use Rattle.sheet.proofs.PartTexts.{entries_in}
use Rattle.sheet.proofs.RoundTrip.{read-then-written}
use Rattle.sheet.proofs.Words.{written-lacks}
use Rattle.reader.specs.Along.{Shown, lines_shown, left_after, keyed, sheet_shown}
use Rattle.reader.specs.Parts.{line_key, line_value}
use Rattle.reader.proofs.ShownLines.{shown-at, Shows, AllPlain, plain-append, plain_map, text-shows}

-- no value has a line feed
plain-number : (n : ℕ) → lacks line_feed (written n) ≡ true
plain-number n = written-lacks line_feed n refl

plain-kind : (k : Kind) → lacks line_feed (kind_word k) ≡ true
plain-kind Time = refl
plain-kind Space = refl

plain_row : (q : PriceRow) → lacks line_feed (row_word q) ≡ true
plain_row q = lacks-append line_feed (written q.h) (slash ∷ written q.d) (plain-number q.h) (plain-number q.d)

plain_step : (modifies : Bool) (step : ℕ) → lacks line_feed (step_word modifies step) ≡ true
plain_step true step = lacks-append line_feed (written step) (mark_letter ∷ []) (plain-number step) refl
plain_step false step = plain-number step

plain-touch : (x : Touch) → lacks line_feed (touch_word x) ≡ true
plain-touch x =
    lacks-append line_feed (written x.segment) (at_sign ∷ step_word x.modifies x.step) (plain-number x.segment)
    (plain_step x.modifies x.step)

-- and no key has one, or another "="
sizes-plain : (xs : List ℕ) → AllPlain (sizes_part.lines xs)
unfolding sizes_part split_at
sizes-plain xs =
    ((refl, refl, plain-number (length xs)), plain_map (λ x. (size_key, written x)) (λ x. (refl, refl, plain-number x)) xs)

prices-plain : (qs : List PriceRow) → AllPlain (prices_part.lines qs)
unfolding prices_part split_at
prices-plain qs =
    ((refl, refl, plain-number (length qs)), plain_map (λ q. (row_key, row_word q)) (λ q. (refl, refl, plain_row q)) qs)

warm-plain : (later : Bool) (segs : ℕ) (xs : List ℕ) → AllPlain ((warm_for later segs).lines xs)
unfolding warm_part split_at
warm-plain true segs xs =
    ((refl, refl, plain-number (length xs)), plain_map (λ x. (hold_key, written x)) (λ x. (refl, refl, plain-number x)) xs)
warm-plain false segs xs = tt

refs-plain : (segs : ℕ) (xs : List ℕ) → AllPlain ((refs_part segs).lines xs)
unfolding refs_part split_at
refs-plain segs xs =
    ((refl, refl, plain-number (length xs)), plain_map (λ x. (ref_key, written x)) (λ x. (refl, refl, plain-number x)) xs)

steps-plain : (letters : Bool) (segs : ℕ) (e : Entries) → AllPlain ((steps_part letters segs).lines e)
unfolding steps_part split_at
steps-plain letters segs e = (
  (refl, refl, plain-number (length e.entries)),
  (
    (refl, refl, plain-number (length (touches_of e))),
    plain_map (λ x. (ref_key, touch_word x)) (λ x. (refl, refl, plain-touch x)) (touches_of e),
  ),
)

-- by the form
entries-plain : (later letters : Bool) (segs : ℕ) (e : Entries) → AllPlain ((entries_part later letters segs).lines e)
unfolding plain_part
entries-plain true letters segs e = steps-plain letters segs e
entries-plain false letters segs e = plain-append ((refs_part segs).lines e.entries) [] (refs-plain segs e.entries) tt

form-plain : (form : ℕ) → AllPlain (form_lines form)
unfolding split_at
form-plain form = go (leb 2 form)
  where
    go : (b : Bool) → AllPlain (cond b ((form_key, written form) ∷ []) [])
    go true = ((refl, refl, plain-number form), tt)
    go false = tt

lines-plain : (v : SheetValue) → AllPlain (lines_of v)
unfolding sheet_part body_part run_part head_part tables_part split_at
lines-plain v =
    let later = leb 3 v.form in
    let segs = length v.head.sizes in
    let warm = plain-append ((warm_for later segs).lines v.head.warm) [] (warm-plain later segs v.head.warm) tt in
    let tables = plain-append (sizes_part.lines v.head.sizes) _ (sizes-plain v.head.sizes)
    (plain-append (prices_part.lines v.head.rows) _ (prices-plain v.head.rows) warm) in
    let entries = (entries_part (leb 2 v.form) (leb 4 v.form) segs).lines (entries_in v) in
    let run = plain-append entries [] (entries-plain (leb 2 v.form) (leb 4 v.form) segs (entries_in v)) tt in
    plain-append (form_lines v.form) _ (form-plain v.form)
    (plain-append ((head_part true later).lines v.head) _
    ((refl, refl, plain-kind v.head.kind), ((refl, refl, plain-number v.head.a), tables)) run)

-- the text of a sheet
pub sheet-shows : (v : SheetValue) → Shows (sheet_shown v) (sheet_text v) []
unfolding sheet_text
sheet-shows v = text-shows (lines_of v) (lines-plain v)

-- an accepted sheet, whatever forms the call takes
pub accepted-shows : (lo hi : ℕ) (s : List ℕ) (v : SheetValue) → read_forms lo hi s ≡ accepted v
    → (lines_shown (length (sheet_shown v)) s ≡ sheet_shown v) × (left_after (length (sheet_shown v)) s ≡ [])
accepted-shows lo hi s v e = let h = sheet-shows v in rw (← read-then-written lo hi s v e) (h.lines, h.left)

-- how many lines there are: a form line where the form has one, kind=, a=, and those of the sizes, the rows, the warm segments and the
-- entries
parts-count : (v : SheetValue) → length (sheet_shown v)
    ≡ length (form_lines v.form) + (2 + (length (sizes_part.lines v.head.sizes) + (length (prices_part.lines v.head.rows)
    + (length ((warm_for (leb 3 v.form) (length v.head.sizes)).lines v.head.warm)
    + length ((entries_part (leb 2 v.form) (leb 4 v.form) (length v.head.sizes)).lines (entries_in v))))))
unfolding sheet_part body_part run_part head_part tables_part
parts-count v =
    length-map (lines_of v) (λ (l : Line). keyed l.0 l.1)
    ∙ all (form_lines v.form) (sizes_part.lines v.head.sizes) (prices_part.lines v.head.rows)
    ((warm_for (leb 3 v.form) (length v.head.sizes)).lines v.head.warm)
    ((entries_part (leb 2 v.form) (leb 4 v.form) (length v.head.sizes)).lines (entries_in v)) _ _
  where
    all : (f s p w e : List Line) (k a : Line) → length (f ++ ((k ∷ a ∷ (s ++ (p ++ (w ++ [])))) ++ (e ++ [])))
        ≡ length f + (2 + (length s + (length p + (length w + length e))))
    all f s p w e k a = simp length-append (omega arith)

-- a count, and a line for each element
counted-count : {A : Type 0} (f : A → Line) (xs : List A) → suc (length (map f xs)) ≡ 1 + length xs
counted-count f xs = omega (arith, length-map xs f)

sizes-count : (xs : List ℕ) → length (sizes_part.lines xs) ≡ 1 + length xs
unfolding sizes_part
sizes-count xs = counted-count (λ x. (size_key, written x)) xs

prices-count : (qs : List PriceRow) → length (prices_part.lines qs) ≡ 1 + length qs
unfolding prices_part
prices-count qs = counted-count (λ q. (row_key, row_word q)) qs

warm-count : (segs : ℕ) (xs : List ℕ) → length ((warm_part segs).lines xs) ≡ 1 + length xs
unfolding warm_part
warm-count segs xs = counted-count (λ x. (hold_key, written x)) xs

refs-count : (segs : ℕ) (e : Entries) → length ((plain_part segs).lines e) ≡ 1 + length e.entries
unfolding plain_part refs_part
refs-count segs e =
    ap length (append-nil ((refs_part segs).lines e.entries)) ∙ counted-count (λ x. (ref_key, written x)) e.entries

steps-count : (letters : Bool) (segs : ℕ) (e : Entries) → length ((steps_part letters segs).lines e) ≡ 2 + length (touches_of e)
unfolding steps_part
steps-count letters segs e = omega (arith, length-map {B = Line} (touches_of e) (λ x. (ref_key, touch_word x)))

-- beside those of the sizes and the rows, form 1 has 5 lines and one for each reference
pub lines-count : (v : SheetValue) → leb 2 v.form ≡ false
    → length (sheet_shown v) ≡ 5 + (length v.head.sizes + (length v.head.rows + length v.entries))
lines-count v e =
    let f = lt-leb 3 v.form (omega (arith, leb-false 2 v.form e)) in
    let segs = length v.head.sizes in
    parts-count v
    ∙ rw (e, f, sizes-count v.head.sizes, prices-count v.head.rows, refs-count segs (entries_in v)) (omega arith)

-- form 2 has 7 and one for each touch
pub lines-count-2 : (v : SheetValue) → leb 2 v.form ≡ true → leb 3 v.form ≡ false
    → length (sheet_shown v) ≡ 7 + (length v.head.sizes + (length v.head.rows + length (touches_of (entries_in v))))
lines-count-2 v e f =
    parts-count v
    ∙ rw (
      e,
      f,
      sizes-count v.head.sizes,
      prices-count v.head.rows,
      steps-count (leb 4 v.form) (length v.head.sizes) (entries_in v),
    )
    (omega arith)

-- and forms 3 and 4 have 8, one for each warm segment and one for each touch
pub lines-count-3 : (v : SheetValue) → leb 3 v.form ≡ true
    → length (sheet_shown v)
    ≡ 8 + (length v.head.sizes + (length v.head.rows + (length v.head.warm + length (touches_of (entries_in v)))))
lines-count-3 v f =
    let e = le-leb 2 v.form (omega (arith, leb-true 3 v.form f)) in
    let segs = length v.head.sizes in
    parts-count v
    ∙ rw (
      e,
      f,
      sizes-count v.head.sizes,
      prices-count v.head.rows,
      warm-count segs v.head.warm,
      steps-count (leb 4 v.form) segs (entries_in v),
    )
    (omega arith)

-- the line n of an accepted sheet: what `value_of` gives for it is the value of the sheet's line n
pub accepted-line : (lo hi : ℕ) (s : List ℕ) (v : SheetValue) (n : ℕ) → read_forms lo hi s ≡ accepted v → n < length (sheet_shown v)
    → (line_key (left_after n s), line_value (left_after n s)) ≡ get_or (sheet_shown v) n ([], [])
accepted-line lo hi s v n e h =
    sym (shown-at (length (sheet_shown v)) n s ([], []) h) ∙ ap (λ (ls : List Shown). get_or ls n ([], [])) (accepted-shows lo hi s v e).0
