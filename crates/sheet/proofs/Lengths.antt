-- The text of a valid value has at most 20,012 bytes, in form 2 at most 29,163, in form 3 at most 31,366 and in form 4 at most 33,414, and
-- that of one valid value of each form has as many.
use Prim.Native.Nat.{ℕ, zero, suc, ◌+◌, ◌-◌, ◌*◌, ◌^◌, ◌≤◌, ◌<◌}
use mathlib.Core.Path.{◌≡◌, refl, ap, subst, ◌∙◌}
use mathlib.Core.Logic.{inl}
use mathlib.Core.Bool.{Bool, true, false, cond, false≢true}
use mathlib.Core.List.{List, [], ◌∷◌, ◌++◌, append-nil}
use mathlib.Core.Option.{Option, none, some}
use native.Mathlib.Nat.{mul-zero}
use native.Mathlib.Omega.{arith}
use borrow.Author.Tests.{lt-ltb}
use lib.Dec.{leb}
use lib.ListN.{length, length-append, get_or-replicate, replicate, length-replicate}
use Rattle.decimal.specs.Decimal.{written, written_in}
use Rattle.decimal.proofs.Written.{written-length, written-longer}
use Rattle.model.specs.Sheets.{HeadValue, SheetValue, Valid, marks_of, form_bytes, newest_form}
use Rattle.model.specs.Sheets.{largest_a, most_segs, largest_size, most_rows, most_steps}
use Rattle.model.specs.declared.Kind.{Kind}
use Rattle.model.specs.declared.Kind.TheVariants.{Time, Space}
use Rattle.model.specs.declared.PriceRow.{PriceRow}
use Rattle.text.specs.Keys.{form_key, kind_key, a_key, segs_key, size_key, rows_key, warm_key, hold_key, steps_key, refs_key, ref_key}
use Rattle.text.specs.Keys.{kind_word}
use Rattle.text.specs.Texts.{line_text, number_text, lines_text}
use Rattle.text.proofs.Lengths.{number-within}
use Rattle.text.proofs.Runs.{Each, each_map, lines-length}
use Rattle.sheet.specs.Order.{warm_for, head_part, form_lines}
use Rattle.sheet.specs.Parts.{text_of}
use Rattle.sheet.specs.Touches.{Touch, Entries, touch_text, touches_text, touches_from, touches_of}
use Rattle.sheet.specs.Values.{above, in_prices, row_text}
use Rattle.sheet.specs.Warm.{above_hold}
use Rattle.sheet.specs.Writing.{sheet_text}
use Rattle.sheet.proofs.Accepted.{readable-valid, valid-readable, prices-within, within-prices}
use Rattle.sheet.proofs.PartTexts.{sizes-text, prices-text, warm-text, plain-text, steps-text, head-text}
use Rattle.sheet.proofs.PartTexts.{entries_text, entries_in, sheet-text}
use Rattle.sheet.proofs.SheetLines.{From, EntriesFit, WarmFits, Readable}
use Rattle.sheet.proofs.TouchLengths.{digits_below, digits-next, digits-rise, touch_width, touch-length, touches-within}
use Rattle.sheet.proofs.TouchLengths.{hold-length, holds-within}
use Rattle.sheet.proofs.Touches.{EntryFits, OnTouches, MarksFit, marks-letter, touches-fit}
use Rattle.sheet.proofs.Words.{RowFits, HoldFits}

-- ---- the length of a text is that of its lines

-- seven texts, in the parts of a head
seven : (a b c d e f g : List ℕ) → length (a ++ (b ++ ((c ++ d) ++ ((e ++ f) ++ g))))
    ≡ length a + (length b + (length c + (length d + (length e + (length f + length g)))))
seven a b c d e f g = simp length-append (omega arith)

-- the length of the warm segments' lines in a head
abbrev warm_length : Bool → HeadValue → ℕ
warm_length later h = length (text_of ((warm_for later (length h.sizes)).lines h.warm))

-- a head: its seven texts
head-length : (later : Bool) (h : HeadValue) → length (text_of ((head_part true later).lines h))
    ≡ length (line_text kind_key (kind_word h.kind))
    + (length (number_text a_key h.a)
    + (length (number_text segs_key (length h.sizes))
    + (length (lines_text (number_text size_key) h.sizes)
    + (length (number_text rows_key (length h.rows))
    + (length (lines_text row_text h.rows) + warm_length later h)))))
head-length later h =
    rw (head-text true later h, sizes-text h.sizes, prices-text h.rows)
    (seven
    (line_text kind_key (kind_word h.kind))
    (number_text a_key h.a)
    (number_text segs_key (length h.sizes))
    (lines_text (number_text size_key) h.sizes)
    (number_text rows_key (length h.rows))
    (lines_text row_text h.rows)
    (text_of ((warm_for later (length h.sizes)).lines h.warm)))

-- a sheet of form 1: its head and its references
first-length : (v : SheetValue) → v.form ≡ 1 → length (sheet_text v)
    ≡ length (text_of ((head_part true false).lines v.head))
    + (length (number_text refs_key (length v.entries)) + length (lines_text (number_text ref_key) v.entries))
unfolding entries_text lines_text
first-length v e =
    ap length (sheet-text v)
    ∙ rw (e, plain-text (length v.head.sizes) (entries_in v)) (simp length-append)

-- the form line of a later form
form-text : (form : ℕ) → leb 2 form ≡ true → text_of (form_lines form) ≡ number_text form_key form
unfolding lines_text
form-text form e = rw e (append-nil (number_text form_key form))

-- a sheet of a later form: its form line, its head and its touches
later-length : (v : SheetValue) → leb 2 v.form ≡ true → length (sheet_text v)
    ≡ length (number_text form_key v.form) + (length (text_of ((head_part true (leb 3 v.form)).lines v.head))
    + (length (number_text steps_key (length v.entries))
    + (length (number_text refs_key (length (touches_of (entries_in v)))) + length (touches_text (touches_of (entries_in v))))))
unfolding entries_text
later-length v e =
    ap length (sheet-text v)
    ∙ rw (form-text v.form e, e, steps-text (leb 4 v.form) (length v.head.sizes) (entries_in v))
    (five (number_text form_key v.form) (text_of ((head_part true (leb 3 v.form)).lines v.head))
    (number_text steps_key (length v.entries))
    (number_text refs_key (length (touches_of (entries_in v)))) (touches_text (touches_of (entries_in v))))
  where
    five : (a b c d e : List ℕ) → length (a ++ (b ++ (c ++ (d ++ e)))) ≡ length a + (length b + (length c + (length d + length e)))
    five a b c d e = simp length-append

-- ---- at most 20,012 bytes, 29,163 in form 2, 31,366 in form 3, and 33,414 in form 4

-- the lines of numbers below 10 ^ suc k
numbers-within : (key : List ℕ) (lo hi k : ℕ) → hi < 10 ^ suc k → (xs : List ℕ) → Each (From lo hi) none xs
    → length (lines_text (number_text key) xs) ≤ length xs * (length key + (suc k + 1))
numbers-within key lo hi k h xs c =
    (lines-length (number_text key) (From lo hi) 0 (length key + (suc k + 1))
    (λ prev x f. (omega arith, number-within key k x (omega arith))) none xs c).1

-- the line of a row: its two numbers, and six bytes
pub row-length : (q : PriceRow) → length (row_text q) ≡ 6 + (length (written q.h) + length (written q.d))
row-length q = simp length-append (omega arith)

-- a row whose prices lie within their ranges has at most 16 bytes
row_within : (prev : Option PriceRow) (q : PriceRow) → RowFits prev q → length (row_text q) ≤ 16
row_within prev q f =
    let (h, _, d) = prices-within q.h q.d f.0 in
    rw (row-length q) (omega (arith, written-length 4 q.h (omega arith), written-length 4 q.d (omega arith)))

-- so do the lines of n such rows have at most 16 n
rows_within : (qs : List PriceRow) → Each RowFits none qs → length (lines_text row_text qs) ≤ length qs * 16
rows_within qs c = (lines-length row_text RowFits 0 16 (λ prev q f. (omega arith, row_within prev q f)) none qs c).1

-- the line of a kind
kind-within : (k : Kind) → length (line_text kind_key (kind_word k)) ≤ 11
kind-within Time = omega arith
kind-within Space = omega arith

-- the warm segments have at most 2,203, and none before form 3
warm_within : (later : Bool) (segs : ℕ) (xs : List ℕ) → 1 ≤ segs → segs ≤ most_segs → WarmFits later segs xs
    → length (text_of ((warm_for later segs).lines xs)) ≤ cond later 2203 0
unfolding lines_text
warm_within false segs xs one h c = omega arith
warm_within true segs xs one h (l, c) =
    rw (warm-text segs xs, length-append)
    (omega (
      arith,
      number-within warm_key 2 (length xs) (omega arith),
      holds-within segs one (omega arith) xs c,
      digits-rise segs most_segs h,
    ))

-- a head has at most 3,618, and its warm segments
head-within : (v : SheetValue) → Valid v
    → length (text_of ((head_part true (leb 3 v.form)).lines v.head)) ≤ 3618 + cond (leb 3 v.form) 2203 0
head-within v c =
    let r = valid-readable 1 newest_form v c.some_form c.form_within c in
    rw (head-length (leb 3 v.form) v.head)
    (omega (
      arith,
      kind-within v.head.kind,
      number-within a_key 2 v.head.a (omega (arith, c.run.a_within)),
      number-within segs_key 2 (length v.head.sizes) (omega (arith, c.run.segs_within)),
      numbers-within size_key 1 largest_size 3 (omega arith) v.head.sizes r.sizes_fit,
      number-within rows_key 1 (length v.head.rows) (omega (arith, c.rows.rows_within)),
      rows_within v.head.rows r.prices_fit,
      warm_within (leb 3 v.form) (length v.head.sizes) v.head.warm c.run.some_segs c.run.segs_within r.warm_fits,
    ))

-- the references of form 1
first-within : (segs : ℕ) (xs : List ℕ) → segs ≤ most_segs → EntriesFit false segs xs
    → length (number_text refs_key (length xs)) + length (lines_text (number_text ref_key) xs) ≤ 16394
first-within segs xs h (l, c) =
    omega (arith, number-within refs_key 3 (length xs) (omega arith), numbers-within ref_key 0 (segs - 1) 2 (omega arith) xs c)

-- the letters of at most 2,048 touches
letters-within : (letters : Bool) (n : ℕ) → n ≤ most_steps → touch_width letters * n ≤ 9 * most_steps + cond letters 2048 0
letters-within true n h = omega arith
letters-within false n h = omega arith

-- the touches of form 2 on
later-within : (letters : Bool) (segs : ℕ) (e : Entries) → segs ≤ most_segs → EntriesFit true segs e.entries
    → MarksFit letters segs e.entries e.marks
    → length (number_text steps_key (length e.entries))
    + (length (number_text refs_key (length (touches_of e))) + length (touches_text (touches_of e))) ≤ 25538 + cond letters 2048 0
later-within letters segs e h (l, c) f =
    let steps = length e.entries in
    let w = marks-letter letters segs e.entries e.marks f in
    let (n, m) =
    touches-within letters segs steps (omega arith) (omega arith) (touches_of e)
    (touches-fit letters segs steps (marks_of e.marks) w e.entries none none 0 (omega arith) (omega arith) c) in
    omega (
      arith,
      m,
      letters-within letters (length (touches_of e)) (omega (arith, n)),
      digits-rise (suc steps) (suc most_steps) (omega arith),
      number-within steps_key 3 steps (omega arith),
      number-within refs_key 3 (length (touches_of e)) (omega (arith, n)),
    )

-- no valid sheet is longer than a sheet of its form may be
pub text-within : (v : SheetValue) → Valid v → length (sheet_text v) ≤ form_bytes v.form
text-within v c = go v.form refl
  where
    r : Readable 1 newest_form v
    r = valid-readable 1 newest_form v c.some_form c.form_within c

    entries : (b : Bool) → leb 2 v.form ≡ b → EntriesFit b (length v.head.sizes) v.entries
    entries b e = subst (λ b. EntriesFit b (length v.head.sizes) v.entries) e r.entries_fit

    later : (form : ℕ) → v.form ≡ form → leb 2 form ≡ true → length (sheet_text v)
        ≤ length (number_text form_key form) + (3618 + cond (leb 3 form) 2203 0 + (25538 + cond (leb 4 form) 2048 0))
    later form e t =
        let l : leb 2 v.form ≡ true = ap (λ f. leb 2 f) e ∙ t in
        let segs = length v.head.sizes in
        let w = later-within (leb 4 v.form) segs (entries_in v) c.run.segs_within (entries true l) r.marks_fit in
        rw (later-length v l, ← e) (omega (arith, head-within v c, w))

    go : (form : ℕ) → v.form ≡ form → length (sheet_text v) ≤ form_bytes form
    go zero e = absurd (omega (arith, c.some_form))
    go (suc zero) e =
        let h = rw e at (head-within v c) in
        let w = first-within (length v.head.sizes) v.entries c.run.segs_within (entries false (ap (λ f. leb 2 f) e)) in
        rw (first-length v e) (omega (arith, h, w))
    go (suc (suc zero)) e = omega (arith, later 2 e refl, number-within form_key 0 2 (omega arith))
    go (suc (suc (suc zero))) e = omega (arith, later 3 e refl, number-within form_key 0 3 (omega arith))
    go (suc (suc (suc (suc zero)))) e = omega (arith, later 4 e refl, number-within form_key 0 4 (omega arith))
    go (suc (suc (suc (suc (suc k))))) e = absurd (omega (arith, c.form_within))

-- ---- and one valid value with as many

-- the row (10000 + k)/10000
abbrev wide_row : ℕ → PriceRow
wide_row k = record { h = 10000 + k; d = 10000 }

-- n such rows, from k on
wide_rows : ℕ → ℕ → List PriceRow
wide_rows k zero = []
wide_rows k (suc n) = wide_row k ∷ wide_rows (suc k) n

-- the numbers from k on, n of them
ascent : ℕ → ℕ → List ℕ
ascent k zero = []
ascent k (suc n) = k ∷ ascent (suc k) n

-- all of n segments, from form 3 on
abbrev warmest : Bool → ℕ → List ℕ
warmest later n = cond later (ascent 0 n) []

-- k marks, from form 4 on
abbrev marking : Bool → ℕ → List Bool
marking letters k = cond letters (replicate k true) []

-- a sheet of a form with n sizes 4095, m rows from 10000/10000 on, as many warm segments as its form has, and k references 255, each with a
-- letter where its form has it
filled : ℕ → ℕ → ℕ → ℕ → SheetValue
filled form n m k =
    record {
      form = form;
      head = record { kind = Space; a = largest_a; sizes = replicate n largest_size; rows = wide_rows 0 m; warm = warmest (leb 3 form) n };
      entries = replicate k 255;
      marks = marking (leb 4 form) k;
    }

-- the largest sheet of a form: 256 sizes, 64 rows, from form 3 on 256 warm segments, and a reference in each of 2,048 steps, which modifies
-- in form 4
pub largest : ℕ → SheetValue
largest form = filled form most_segs most_rows most_steps

-- the same element again and again, where it fits after any
each_same : {A : Type 0} (F : Option A → A → Type 0) (x : A) → ((prev : Option A) → F prev x)
    → (n : ℕ) (prev : Option A) → Each F prev (replicate n x)
each_same F x f zero prev = tt
each_same F x f (suc n) prev = (f prev, each_same F x f n (some x))

-- n rows are n
wide-length : (k n : ℕ) → length (wide_rows k n) ≡ n
unfolding wide_rows
wide-length k zero = refl
wide-length k (suc n) = ap suc (wide-length (suc k) n)

-- the rows fit, each with 16 bytes
abbrev WideFits : Option PriceRow → PriceRow → Type 0
WideFits prev q = RowFits prev q × (16 ≤ length (row_text q))

-- the rows from k on fit, each with 16 bytes
wide-each : (k n : ℕ) (prev : Option PriceRow) → k + n ≤ most_rows → above prev (wide_row k) ≡ true → Each WideFits prev (wide_rows k n)
unfolding wide_rows
wide-each k zero prev h e = tt
wide-each k (suc n) prev h e = (((prices, e), long), wide-each (suc k) n (some (wide_row k)) (omega arith) next)
  where
    prices : in_prices (10000 + k) 10000 ≡ true
    prices = within-prices (10000 + k) 10000 (omega arith) (omega arith) (omega arith)

    long : 16 ≤ length (row_text (wide_row k))
    long = rw (row-length (wide_row k)) (omega (arith, written-longer 4 (10000 + k) (omega arith), written-longer 4 10000 (omega arith)))

    next : above (some (wide_row k)) (wide_row (suc k)) ≡ true
    next = lt-ltb ((10000 + k) * 10000) ((10000 + suc k) * 10000) (omega arith)

-- n numbers are n
ascent-length : (k n : ℕ) → length (ascent k n) ≡ n
unfolding ascent
ascent-length k zero = refl
ascent-length k (suc n) = ap suc (ascent-length (suc k) n)

-- the numbers from k on fit, where there are as many segments
ascent-each : (segs k n : ℕ) (prev : Option ℕ) → k + n ≤ segs → above_hold prev k ≡ true → Each (HoldFits segs) prev (ascent k n)
unfolding ascent
ascent-each segs k zero prev h e = tt
ascent-each segs k (suc n) prev h e =
    ((omega arith, e), ascent-each segs (suc k) n (some k) (omega arith) (lt-ltb k (suc k) (omega arith)))

-- its warm segments fit in each form
filled-warm : (later : Bool) (n : ℕ) → WarmFits later (length (replicate n largest_size)) (warmest later n)
filled-warm true n =
    rw (length-replicate {A = ℕ} n largest_size) (rw (ascent-length 0 n) (omega arith), ascent-each n 0 n none (omega arith) refl)
filled-warm false n = refl

-- its entries fit in each form
filled-entries : (later : Bool) (n k : ℕ) → 256 ≤ n → k ≤ most_steps
    → EntriesFit later (length (replicate n largest_size)) (replicate k 255)
filled-entries true n k n₁ k₂ = (
  rw length-replicate (omega arith),
  each_same (EntryFits (length (replicate n largest_size))) 255 (λ prev. inl (rw length-replicate (omega arith))) k none,
)
filled-entries false n k n₁ k₂ = (
  rw length-replicate (omega arith),
  each_same (From 0 (length (replicate n largest_size) - 1)) 255 (λ prev. rw length-replicate (omega arith)) k none,
)

-- its marks fit in each form
filled-marks : (letters : Bool) (n k : ℕ) → 256 ≤ n
    → MarksFit letters (length (replicate n largest_size)) (replicate k 255) (marking letters k)
filled-marks true n k n₁ = (rw (length-replicate {A = Bool} k true, length-replicate {A = ℕ} k 255), go k)
  where
    go : (k : ℕ) → OnTouches (length (replicate n largest_size)) (replicate k 255) (replicate k true)
    go zero t e = absurd (false≢true e)
    go (suc k) zero e = rw length-replicate (omega arith)
    go (suc k) (suc t) e = go k t e
filled-marks false n k n₁ = refl

-- such a value meets what the lines ask, where its counts do
filled-readable : (form n m k : ℕ) → 1 ≤ form → form ≤ newest_form → 256 ≤ n → n ≤ most_segs → 1 ≤ m → m ≤ most_rows → k ≤ most_steps
    → Readable 1 newest_form (filled form n m k)
unfolding filled
filled-readable form n m k f₁ f₂ n₁ n₂ m₁ m₂ k₂ =
    record {
      some_form = f₁;
      form_taken = f₁;
      form_known = λ _. f₂;
      a_fits = omega arith;
      segs_fit = rw length-replicate (omega arith);
      sizes_fit = each_same (From 1 largest_size) largest_size (λ prev. omega arith) n none;
      rows_fit = rw wide-length (omega arith);
      prices_fit = each_map WideFits RowFits (λ prev q f. f.0) none (wide_rows 0 m) (wide-each 0 m none (omega arith) refl);
      warm_fits = filled-warm (leb 3 form) n;
      entries_fit = filled-entries (leb 2 form) n k n₁ k₂;
      marks_fit = filled-marks (leb 4 form) n k n₁;
    }

-- the largest sheets are valid
pub largest-valid : (form : ℕ) → 1 ≤ form → form ≤ newest_form → Valid (largest form)
unfolding largest
largest-valid form f₁ f₂ =
    readable-valid 1 newest_form (omega arith) _
    (filled-readable form most_segs most_rows most_steps f₁ f₂ (omega arith) (omega arith) (omega arith) (omega arith) (omega arith))

-- n lines of one number, each of w bytes
same_lines : (key : List ℕ) (x w n : ℕ) → length (number_text key x) ≡ w → length (lines_text (number_text key) (replicate n x)) ≡ n * w
same_lines key x w n e =
    let l = lines-length (number_text key) Exact w w (λ prev y f. f) none (replicate n x)
    (each_same Exact x (λ prev. omega arith) n none) in
    omega (arith, rw length-replicate at l)
  where
    Exact : Option ℕ → ℕ → Type 0
    Exact prev y = (w ≤ length (number_text key y)) × (length (number_text key y) ≤ w)

-- the lines of m rows from 10000/10000 on
wide-lines : (m : ℕ) → m ≤ most_rows → length (lines_text row_text (wide_rows 0 m)) ≡ m * 16
wide-lines m h =
    let w = wide-each 0 m none (omega arith) refl in
    let l = lines-length row_text WideFits 16 16 (λ prev q f. (f.1, row_within prev q f.0)) none (wide_rows 0 m) w in
    omega (arith, rw (wide-length 0 m) at l)

-- the line of the largest a
a-length : length (number_text a_key largest_a) ≡ 6
unfolding written written_in
a-length = refl

-- the line of the largest size
size-length : length (number_text size_key largest_size) ≡ 10
unfolding written written_in
size-length = refl

-- the line of the last segment of 256
reference-length : length (number_text ref_key 255) ≡ 8
unfolding written written_in
reference-length = refl

-- the lines of the numbers from k on: each with 6 bytes and its digits
ascent-lines : (k n : ℕ) → k + n ≤ 10000
    → length (lines_text (number_text hold_key) (ascent k n)) + digits_below k ≡ 6 * n + digits_below (k + n)
unfolding ascent lines_text
ascent-lines k zero h = let e : k + 0 ≡ k = omega arith in rw e
ascent-lines k (suc n) h =
    let e : k + suc n ≡ suc k + n = omega arith in
    let i = ascent-lines (suc k) n (omega arith) in
    let d = digits-next k (omega arith) in
    rw (length-append (number_text hold_key k) (lines_text (number_text hold_key) (ascent (suc k) n)), hold-length k, e)
    (together (length (written k)) (length (lines_text (number_text hold_key) (ascent (suc k) n))) (digits_below k) (digits_below (suc k))
    (digits_below (suc k + n)) n i d)
  where
    together : (w t b c e n : ℕ) → t + c ≡ 6 * n + e → b + w ≡ c → 6 + w + t + b ≡ 6 * suc n + e
    together w t b c e n i d = omega arith

-- the length of the warm segments' lines
warmest_length : Bool → ℕ → ℕ
warmest_length later n = cond later (length (number_text warm_key n) + (6 * n + digits_below n)) 0

filled-warm-length : (later : Bool) (segs n : ℕ) → n ≤ 10000 → length (text_of ((warm_for later segs).lines (warmest later n)))
    ≡ warmest_length later n
unfolding warmest_length lines_text
filled-warm-length false segs n h = refl
filled-warm-length true segs n h =
    let e : 0 + n ≡ n = omega arith in
    let l : length (lines_text (number_text hold_key) (ascent 0 n))
    ≡ 6 * n + digits_below n = omega (arith, rw e at (ascent-lines 0 n (omega arith))) in
    rw (
      warm-text segs (ascent 0 n),
      length-append (number_text warm_key (length (ascent 0 n)))
          (lines_text (number_text hold_key) (ascent 0 n)),
      ascent-length 0 n,
      l,
    )

-- the length of such a value's head, by its counts
filled-head : (form n m k : ℕ) → m ≤ most_rows → n ≤ 10000 → length (text_of ((head_part true (leb 3 form)).lines (filled form n m k).head))
    ≡ 11 + (6 + (length (number_text segs_key n) + (n * 10 + (length (number_text rows_key m) + (m * 16 + warmest_length (leb 3 form) n)))))
unfolding filled
filled-head form n m k h g =
    head-length (leb 3 form) (filled form n m k).head
    ∙ rw (
      filled-warm-length (leb 3 form) (length (replicate n largest_size)) n g,
      length-replicate {A = ℕ} n largest_size,
      wide-length 0 m,
      a-length,
      wide-lines m h,
      same_lines size_key largest_size 10 n size-length,
    )

-- a touch in every step: as many as steps
touches-each : (m : ℕ → Bool) (k before : ℕ) → length (touches_from m before (replicate k 255)) ≡ k
unfolding touches_from
touches-each m zero before = refl
touches-each m (suc k) before = ap suc (touches-each m k (suc before))

-- the marks are all the same
marking-same : (letters : Bool) (k t : ℕ) → t < k → marks_of (marking letters k) t ≡ letters
marking-same true k t h = get_or-replicate k t true false h
marking-same false k t h = refl

digits-of-255 : length (written 255) ≡ 3
unfolding written written_in
digits-of-255 = refl

-- each line has its width and its step's digits
touches-long : (letters : Bool) (m : ℕ → Bool) (k before : ℕ) → ((t : ℕ) → before ≤ t → t < before + k → m t ≡ letters) → before + k < 10000
    → length (touches_text (touches_from m before (replicate k 255))) + digits_below (suc before)
    ≡ touch_width letters * k + digits_below (suc (before + k))
unfolding touches_from lines_text
touches-long letters m zero before f h = let e : before + 0 ≡ before = omega arith in rw (e, mul-zero (touch_width letters))
touches-long letters m (suc k) before f h =
    let e : before + suc k ≡ suc before + k = omega arith in
    let x : Touch = record { segment = 255; step = suc before; modifies = m before } in
    let rest = touches_text (touches_from m (suc before) (replicate k 255)) in
    let i = touches-long letters m k (suc before) (λ t a b. f t (omega arith) (omega arith)) (omega arith) in
    let d = digits-next (suc before) (omega arith) in
    let w = width letters (m before) (f before (omega arith) (omega arith)) in
    rw (length-append (touch_text x) rest, touch-length x, digits-of-255, e)
    (together (length (written (suc before))) (cond (m before) 1 0) (touch_width letters) (length rest) (digits_below (suc before))
    (digits_below (suc (suc before))) (digits_below (suc (suc before + k))) k i d w)
  where
    width : (letters b : Bool) → b ≡ letters → 9 + cond b 1 0 ≡ touch_width letters
    width true b e = rw e
    width false b e = rw e

    together : (w l u t b c e k : ℕ) → t + c ≡ u * k + e → b + w ≡ c → 9 + l ≡ u → 6 + (3 + (w + l)) + t + b ≡ u * suc k + e
    together w l u t b c e k i d g = omega arith

-- the length of the lines of k touches
touches-length : (letters : Bool) (k : ℕ) → k < 10000
    → length (touches_text (touches_of (record { entries = replicate k 255; marks = marking letters k })))
    ≡ touch_width letters * k + (digits_below (suc k) - 1)
touches-length letters k h =
    let z : 0 + k ≡ k = omega arith in
    let same : (t : ℕ) → 0 ≤ t → t < 0 + k → marks_of (marking letters k) t ≡ letters = λ t _ l. marking-same letters k t (omega arith) in
    omega (arith, rw z at (touches-long letters (marks_of (marking letters k)) k 0 same (omega arith)))

-- the length of such a value's text, by its counts, in form 1 and in a later form
filled-first : (n m k : ℕ) → m ≤ most_rows → n ≤ 10000 → length (sheet_text (filled 1 n m k))
    ≡ 11 + (6 + (length (number_text segs_key n) + (n * 10 + (length (number_text rows_key m) + (m * 16 + warmest_length false n)))))
    + (length (number_text refs_key k) + k * 8)
unfolding filled
filled-first n m k h g =
    first-length (filled 1 n m k) refl
    ∙ (ap (λ x. x + (length (number_text refs_key (length {A = ℕ} (replicate k 255))) + length
    (lines_text (number_text ref_key) (replicate k 255))))
    (filled-head 1 n m k h g)
    ∙ rw (length-replicate {A = ℕ} k 255, same_lines ref_key 255 8 k reference-length))

filled-later : (form n m k : ℕ) → leb 2 form ≡ true → m ≤ most_rows → n ≤ 10000 → k < 10000 → length (sheet_text (filled form n m k))
    ≡ length (number_text form_key form)
    + (11 + (6 + (length (number_text segs_key
    n) + (n * 10 + (length (number_text rows_key m) + (m * 16 + warmest_length (leb 3 form) n)))))
    + (length (number_text steps_key k) + (length (number_text refs_key k) + (touch_width (leb 4 form) * k + (digits_below (suc k) - 1)))))
unfolding filled
filled-later form n m k e h g l =
    let entries = entries_in (filled form n m k) in
    later-length (filled form n m k) e
    ∙ (ap (λ x. length (number_text form_key form) + (x + (length (number_text steps_key (length {A = ℕ} (replicate k 255)))
    + (length (number_text refs_key (length (touches_of entries))) + length (touches_text (touches_of entries))))))
    (filled-head form n m k h g)
    ∙ rw (length-replicate {A = ℕ} k 255, touches-each (marks_of (marking (leb 4 form) k)) k 0, touches-length (leb 4 form) k l))

-- the largest sheet of form 1 has 20,012 bytes, that of form 2 has 29,163, that of form 3 has 31,366, and that of form 4 has 33,414
pub largest-first : length (sheet_text (largest 1)) ≡ form_bytes 1
unfolding largest warmest_length written written_in
largest-first = filled-first most_segs most_rows most_steps (omega arith) (omega arith)

pub largest-second : length (sheet_text (largest 2)) ≡ form_bytes 2
unfolding largest warmest_length written written_in
largest-second = filled-later 2 most_segs most_rows most_steps refl (omega arith) (omega arith) (omega arith)

pub largest-third : length (sheet_text (largest 3)) ≡ form_bytes 3
unfolding largest warmest_length written written_in
largest-third = filled-later 3 most_segs most_rows most_steps refl (omega arith) (omega arith) (omega arith)

pub largest-fourth : length (sheet_text (largest 4)) ≡ form_bytes 4
unfolding largest warmest_length written written_in
largest-fourth = filled-later 4 most_segs most_rows most_steps refl (omega arith) (omega arith) (omega arith)

-- so the largest sheet of each form is as long as a sheet of the form may be
pub largest-form : (form : ℕ) → (largest form).form ≡ form
unfolding largest filled
largest-form form = refl

pub largest-length : (form : ℕ) → 1 ≤ form → form ≤ newest_form → length (sheet_text (largest form)) ≡ form_bytes form
largest-length zero l h = absurd (omega arith)
largest-length (suc zero) l h = largest-first
largest-length (suc (suc zero)) l h = largest-second
largest-length (suc (suc (suc zero))) l h = largest-third
largest-length (suc (suc (suc (suc zero)))) l h = largest-fourth
largest-length (suc (suc (suc (suc (suc k))))) l h = absurd (omega arith)
