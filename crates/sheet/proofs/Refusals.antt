-- Which refusals reading gives: 1 exactly where the sheet is too long, 2 to 5, 16 or 19 for a line, 6 after the lines, and no other.
use Prim.Native.Nat.{ℕ, zero, suc, ◌-◌, ◌≤◌, ◌<◌, max}
use mathlib.Core.Path.{◌≡◌, refl, ap}
use mathlib.Core.Bool.{Bool, true, false, cond, ◌&&◌}
use mathlib.Core.List.{List, [], ◌∷◌}
use mathlib.Core.Logic.{◌⊎◌, inl, inr, ⊎_elim}
use mathlib.Core.Option.{Option, none, some}
use native.Mathlib.Omega.{arith}
use borrow.Author.Tests.{ltb-true, ltb-false, lt-ltb}
use lib.Dec.{eqb, leb, ltb}
use lib.ListN.{length, take}
use Rattle.std.specs.Prelude.{Result, Ok, Err}
use Rattle.decimal.specs.Decimal.{is_number, value, reading_of}
use Rattle.decimal.specs.declared.NumberError.{NumberError}
use Rattle.decimal.specs.declared.NumberError.TheVariants.{NotNumber, OutOfRange as Beyond}
use Rattle.text.specs.Keys.{line_feed, slash, at_sign, form_key, kind_key, a_key, segs_key, size_key, rows_key, row_key, warm_key, hold_key}
use Rattle.text.specs.Keys.{steps_key, refs_key, ref_key, kind_word}
use Rattle.model.specs.Refusals.{number_of}
use Rattle.model.specs.Sheets.{SheetValue, Valid, form_bytes, newest_form, largest_a, most_segs, largest_size, most_rows, most_steps}
use Rattle.model.specs.declared.Kind.TheVariants.{Time, Space}
use Rattle.model.specs.declared.PriceRow.{PriceRow}
use Rattle.model.specs.declared.Refusal.{Refusal}
use Rattle.model.specs.declared.Refusal.TheVariants.{SheetTooLong, LineMalformed, ValueMalformed, OutOfRange, ThresholdNotAbove}
use Rattle.model.specs.declared.Refusal.TheVariants.{BytesAfterEnd, StepNotAbove, HoldNotAbove}
use Rattle.sheet.specs.Lines.{Parsed, read, refused, and_then, Split, parts, none as unsplit, split_at, same_bytes, after_key, of_line}
use Rattle.sheet.specs.Lines.{value_line, in_range, number_line, number_lines}
use Rattle.sheet.specs.Order.{sizes_part, prices_part, warm_part, warm_for, tables_part, head_part}
use Rattle.sheet.specs.Order.{refs_part, plain_part, steps_part, entries_part, run_part, body_part, sheet_part}
use Rattle.sheet.specs.Reading.{sheet_lines, named_form, Outcome, accepted, rejected, at_end, read_forms, read_sheet}
use Rattle.sheet.specs.Touches.{step_part, touch_of, touch_parts, touch_line, touch_lines, entries_of, entry_lines}
use Rattle.sheet.specs.Warm.{above_hold, hold_after, hold_line, hold_lines}
use Rattle.sheet.specs.Values.{kind_of, kind_line, above, in_prices, row_parts, row_line, row_lines}
use Rattle.sheet.proofs.Accepted.{accepted-valid}
use Rattle.sheet.proofs.Parsing.{by-test}
use Rattle.sheet.proofs.Runs.{lines, number-lines, row-lines, hold-lines}
use Rattle.sheet.proofs.Touches.{step_of, touch-lines}

-- the refusals of the lines that later forms have: 16 for a touch, 19 for a warm segment
abbrev pub OfLater : Refusal → Type 0
OfLater r = (number_of r ≡ 16) ⊎ (number_of r ≡ 19)

-- the refusals of a line: 2 to 5, 16 and 19
abbrev pub OfLine : Refusal → Type 0
OfLine r = ((2 ≤ number_of r) × (number_of r ≤ 5)) ⊎ OfLater r

-- if this refuses, then as a line does
abbrev pub Refuses : {A : Type 0} → Parsed A → Type 0
Refuses p = (r : Refusal) → p ≡ refused r → OfLine r

-- ---- a value, a refusal, a test, and two steps

-- a value is no refusal
reading : {A : Type 0} (a : A) (s : List ℕ) → Refuses (read a s)
reading a s r e = let z : ◌≡◌ {A = ℕ} 0 1 = cc in absurd (omega arith)

-- a refusal of a line
refusing : {A : Type 0} (x : Refusal) → OfLine x → Refuses {A = A} (refused x)
refusing x o r e = let q : x ≡ r = cc in rw (← q) o

-- a test between two answers
testing : {A : Type 0} (t : Bool) (x y : Parsed A) → Refuses x → Refuses y → Refuses (cond t x y)
testing true x y f g = f
testing false x y f g = g

-- two steps, the second from what the first reads
stepping : {A B : Type 0} (p : Parsed A) (f : A → List ℕ → Parsed B) → Refuses p
    → ((a : A) (rest : List ℕ) → Refuses (f a rest)) → Refuses (and_then p f)
stepping (read a rest) f g h r e = h a rest r e
stepping (refused x) f g h r e = let q : x ≡ r = cc in g r (ap refused q)

-- ---- the lines: 2 for the key, 3 for a kind, 4 for a number, 5 for a row, 16 for a touch, 19 for a warm segment

malformed : {A : Type 0} → Refuses {A = A} (refused LineMalformed)
malformed = refusing LineMalformed (inl (omega arith, omega arith))

no_value : {A : Type 0} → Refuses {A = A} (refused ValueMalformed)
no_value = refusing ValueMalformed (inl (omega arith, omega arith))

beyond : {A : Type 0} → Refuses {A = A} (refused OutOfRange)
beyond = refusing OutOfRange (inl (omega arith, omega arith))

-- the key of a line
key-refuses : (key line rest : List ℕ) → Refuses (after_key key line rest)
unfolding after_key
key-refuses [] line rest = reading line rest
key-refuses (k ∷ key) [] rest = malformed
key-refuses (k ∷ key) (b ∷ line) rest = testing (eqb b k) _ _ (key-refuses key line rest) malformed

-- the value of a line
line-refuses : (key s : List ℕ) → Refuses (value_line key s)
unfolding value_line
line-refuses key s = go (split_at line_feed s)
  where
    go : (p : Split) → Refuses (of_line key p)
    go (parts line rest) = key-refuses key line rest
    go unsplit = malformed

-- the line kind=
kind-refuses : (s : List ℕ) → Refuses (kind_line s)
unfolding kind_line
kind-refuses s =
    stepping (value_line kind_key s) kind_of (line-refuses kind_key s) λ v rest.
    testing (same_bytes v (kind_word Time)) _ _ (reading Time rest)
    (testing (same_bytes v (kind_word Space)) _ _ (reading Space rest) no_value)

-- the line of a number
number-refuses : (key : List ℕ) (lo hi : ℕ) (s : List ℕ) → Refuses (number_line key lo hi s)
unfolding number_line
number-refuses key lo hi s = stepping (value_line key s) _ (line-refuses key s) λ v rest. go (reading_of lo hi v) rest
  where
    go : (x : Result ℕ NumberError) (rest : List ℕ) → Refuses (in_range x rest)
    go (Err NotNumber) rest = no_value
    go (Err Beyond) rest = beyond
    go (Ok n) rest = reading n rest

-- the line row=
row-refuses : (prev : Option PriceRow) (s : List ℕ) → Refuses (row_line prev s)
unfolding row_line
row-refuses prev s = stepping (value_line row_key s) _ (line-refuses row_key s) λ v rest. go (split_at slash v) rest
  where
    go : (p : Split) (rest : List ℕ) → Refuses (row_parts prev p rest)
    go (parts x y) rest =
        testing (is_number x && is_number y) _ _
        (testing (in_prices (value x) (value y)) _ _
        (testing (above prev (record { h = value x; d = value y })) _ _
        (reading _ rest)
        (refusing ThresholdNotAbove (inl (omega arith, omega arith))))
        beyond)
        no_value
    go unsplit rest = no_value

-- the line ref= of form 2 on
touch-refuses : (letters : Bool) (segs steps before : ℕ) (s : List ℕ) → Refuses (touch_line letters segs steps before s)
unfolding touch_line
touch-refuses letters segs steps before s = stepping (value_line ref_key s) _ (line-refuses ref_key s) λ v rest. go (split_at at_sign v)
    rest
  where
    of : (x y : List ℕ) (modifies : Bool) (rest : List ℕ) → Refuses (touch_of segs steps before x y modifies rest)
    of x y modifies rest =
        testing (is_number x && is_number y) _ _
        (testing (ltb (value x) segs) _ _
        (testing (ltb before (value y) && leb (value y) steps) _ _ (reading _ rest) (refusing StepNotAbove (inr (inl refl))))
        beyond)
        no_value

    go : (p : Split) (rest : List ℕ) → Refuses (touch_parts letters segs steps before p rest)
    go (parts x y) rest = of x (step_part letters y).0 (step_part letters y).1 rest
    go unsplit rest = no_value

-- the line hold=
hold-refuses : (segs : ℕ) (prev : Option ℕ) (s : List ℕ) → Refuses (hold_line segs prev s)
unfolding hold_line
hold-refuses segs prev s =
    stepping (number_line hold_key 0 (segs - 1) s) (hold_after prev) (number-refuses hold_key 0 (segs - 1) s) λ x rest.
    testing (above_hold prev x) _ _ (reading x rest) (refusing HoldNotAbove (inr (inr refl)))

-- a run of lines refuses as its lines do
lines-refuse : {A : Type 0} (p : Option A → List ℕ → Parsed A) → ((prev : Option A) (s : List ℕ) → Refuses (p prev s))
    → (n : ℕ) (prev : Option A) (s : List ℕ) → Refuses (lines p n prev s)
unfolding lines
lines-refuse p f zero prev s = reading [] s
lines-refuse p f (suc n) prev s =
    stepping (p prev s) _ (f prev s) λ x rest.
    stepping (lines p n (some x) rest) _ (lines-refuse p f n (some x) rest) λ xs end.
    reading (x ∷ xs) end

-- n lines of numbers, of rows, of warm segments, of touches
numbers-refuse : (key : List ℕ) (lo hi n : ℕ) (s : List ℕ) → Refuses (number_lines key lo hi n s)
numbers-refuse key lo hi n s =
    rw (number-lines key lo hi n none s) (lines-refuse (λ _. number_line key lo hi) (λ _. number-refuses key lo hi) n none s)

rows-refuse : (n : ℕ) (s : List ℕ) → Refuses (row_lines n none s)
rows-refuse n s = rw (row-lines n none s) (lines-refuse row_line row-refuses n none s)

holds-refuse : (segs n : ℕ) (s : List ℕ) → Refuses (hold_lines segs n none s)
holds-refuse segs n s = rw (hold-lines segs n none s) (lines-refuse (hold_line segs) (hold-refuses segs) n none s)

touches-refuse : (letters : Bool) (segs steps n : ℕ) (s : List ℕ) → Refuses (entry_lines letters segs steps n s)
touches-refuse letters segs steps n s =
    stepping (touch_lines letters segs steps n 0 s) _
    (rw (touch-lines letters segs steps n none s)
    (lines-refuse (λ p. touch_line letters segs steps (step_of p)) (λ p. touch-refuses letters segs steps (step_of p)) n none s))
    (λ xs rest. reading (entries_of letters steps xs) rest)

-- the warm segments
warm-refuses : (later : Bool) (segs : ℕ) (s : List ℕ) → Refuses ((warm_for later segs).reads s)
unfolding warm_part
warm-refuses true segs s = stepping (number_line warm_key 0 segs s) _ (number-refuses warm_key 0 segs s) (holds-refuse segs)
warm-refuses false segs s = reading [] s

-- the head
head-refuses : (taken later : Bool) (s : List ℕ) → Refuses ((head_part taken later).reads s)
unfolding head_part tables_part sizes_part prices_part
head-refuses taken later s =
    stepping _ _ (stepping (kind_line s) _ (kind-refuses s) (λ kind rest. testing taken _ _ (reading kind rest) beyond)) λ kind s₁.
    stepping (number_line a_key 0 largest_a s₁) _ (number-refuses a_key 0 largest_a s₁) λ a s₂.
    stepping (sizes_part.reads s₂) _
    (stepping (number_line segs_key 1 most_segs s₂) _ (number-refuses segs_key 1 most_segs s₂) (numbers-refuse size_key 1 largest_size))
    λ sizes
    s₃.
    stepping (prices_part.reads s₃) _
    (stepping (number_line rows_key 1 most_rows s₃) _ (number-refuses rows_key 1 most_rows s₃) rows-refuse) λ rows s₄.
    stepping ((warm_for later (length sizes)).reads s₄) _ (warm-refuses later (length sizes) s₄) λ warm s₅.
    reading _ s₅

-- the entries
entries-refuse : (later letters : Bool) (segs : ℕ) (s : List ℕ) → Refuses ((entries_part later letters segs).reads s)
unfolding refs_part plain_part steps_part
entries-refuse true letters segs s =
    stepping (number_line steps_key 0 most_steps s) _ (number-refuses steps_key 0 most_steps s) λ steps s₁.
    stepping (number_line refs_key 0 steps s₁) _ (number-refuses refs_key 0 steps s₁) (touches-refuse letters segs steps)
entries-refuse false letters segs s =
    stepping ((refs_part segs).reads s) _
    (stepping (number_line refs_key 0 most_steps s) _ (number-refuses refs_key 0 most_steps s) (numbers-refuse ref_key 0 (segs - 1)))
    λ refs s₁.
    reading _ s₁

-- and the lines of a sheet
body-refuses : (lo form : ℕ) (s : List ℕ) → Refuses ((body_part lo form).reads s)
unfolding body_part run_part
body-refuses lo form s =
    stepping ((head_part (leb lo form) (leb 3 form)).reads s) _ (head-refuses (leb lo form) (leb 3 form) s) λ head s₁.
    stepping ((entries_part (leb 2 form) (leb 4 form) (length head.sizes)).reads s₁) _
    (entries-refuse (leb 2 form) (leb 4 form) (length head.sizes) s₁) λ e s₂.
    reading _ s₂

pub sheet-refuses : (lo hi : ℕ) (s : List ℕ) → Refuses (sheet_lines lo hi s)
unfolding sheet_part
sheet-refuses lo hi s =
    testing (same_bytes (take 5 s) form_key) _ _
    (stepping (number_line form_key (max 2 lo) hi s) _ (number-refuses form_key (max 2 lo) hi s) (body-refuses lo))
    (body-refuses lo 1 s)

-- ---- a sheet

-- the refusals of a sheet that is not too long: 2 to 6, 16 and 19
abbrev pub OfSheet : Refusal → Type 0
OfSheet r = ((2 ≤ number_of r) × (number_of r ≤ 6)) ⊎ OfLater r

-- what follows the last line is refused with 6
end-refuses : (p : Parsed SheetValue) → Refuses p → (r : Refusal) → at_end p ≡ rejected r → OfSheet r
end-refuses (read v []) f r e = let z : ◌≡◌ {A = ℕ} 0 1 = cc in absurd (omega arith)
end-refuses (read v (b ∷ rest)) f r e = let q : BytesAfterEnd ≡ r = cc in rw (← q) (inl (omega arith, omega arith))
end-refuses (refused x) f r e = let q : x ≡ r = cc in ⊎_elim (λ w. inl (omega (arith, w), omega (arith, w))) inr (f r (ap refused q))

-- a refused sheet: it is longer than its form allows and the refusal is 1, or it is not and the refusal is one of 2 to 6, 16 and 19
pub rejected-by : (lo hi : ℕ) (s : List ℕ) (r : Refusal) → read_forms lo hi s ≡ rejected r
    → ((form_bytes (named_form s) < length s) × (r ≡ SheetTooLong)) ⊎ ((length s ≤ form_bytes (named_form s)) × OfSheet r)
unfolding read_forms
rejected-by lo hi s r e =
    by-test (ltb (form_bytes (named_form s)) (length s)) (rejected SheetTooLong) (at_end (sheet_lines lo hi s)) (rejected r) e
    (λ h f. inl (ltb-true (form_bytes (named_form s)) (length s) h, (cc)))
    (λ h f. inr (ltb-false (form_bytes (named_form s)) (length s) h, end-refuses (sheet_lines lo hi s) (sheet-refuses lo hi s) r f))

-- 1 is given exactly where the sheet is too long
pub too_long : (lo hi : ℕ) (s : List ℕ) → read_forms lo hi s ≡ rejected SheetTooLong → form_bytes (named_form s) < length s
too_long lo hi s e =
    ⊎_elim (λ w. w.0) (λ w. absurd (⊎_elim (λ o. omega (arith, o)) (⊎_elim (λ o. omega (arith, o)) (λ o. omega (arith, o))) w.1))
    (rejected-by lo hi s SheetTooLong e)

-- and it is given there
pub long-refused : (lo hi : ℕ) (s : List ℕ) → form_bytes (named_form s) < length s → read_forms lo hi s ≡ rejected SheetTooLong
unfolding read_forms
long-refused lo hi s h = rw (lt-ltb (form_bytes (named_form s)) (length s) h)

-- the refusals of a sheet: 1 to 6, 16 and 19
abbrev pub RefusesSheet : Refusal → Type 0
RefusesSheet r = ((1 ≤ number_of r) × (number_of r ≤ 6)) ⊎ OfLater r

-- every refusal is one of them
pub sheet-refusals : (lo hi : ℕ) (s : List ℕ) (r : Refusal) → read_forms lo hi s ≡ rejected r → RefusesSheet r
sheet-refusals lo hi s r e =
    ⊎_elim (λ w. rw w.1 (inl (omega arith, omega arith))) (λ w. ⊎_elim (λ o. inl (omega (arith, o), omega (arith, o))) inr w.1)
    (rejected-by lo hi s r e)

-- ---- the answer

-- a run of bytes is accepted as a valid value, or refused with one of 1 to 6, 16 and 19
abbrev pub Answer : List ℕ → Type 0
Answer s =
    ((v : SheetValue) × (read_sheet s ≡ accepted v) × Valid v) ⊎ ((r : Refusal) × (read_sheet s ≡ rejected r) × RefusesSheet r)

-- every run of bytes has such an answer
pub answered : (s : List ℕ) → Answer s
answered s = go (read_sheet s) refl
  where
    go : (o : Outcome) → read_sheet s ≡ o → Answer s
    go (accepted v) e = inl (v, e, accepted-valid 1 newest_form (omega arith) s v e)
    go (rejected r) e = inr (r, e, sheet-refusals 1 newest_form s r e)
