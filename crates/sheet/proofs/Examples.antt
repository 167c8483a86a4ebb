-- The sheet of document 01's listing, read and written by the definitions; the limits of a sheet, each reached by a text that is
-- accepted and left by one that is refused; which refusal comes first; the warm segments of form 3 and the letter w of form 4, each case
-- decided by hand.
use Prim.Native.Nat.{ℕ}
use mathlib.Core.Path.{◌≡◌, refl}
use mathlib.Core.Bool.{Bool, true, false, ◌&&◌}
use mathlib.Core.List.{List, [], ◌∷◌, ◌++◌}
use lib.Dec.{eqb}
use lib.ListN.{length, replicate}
use Rattle.model.specs.Refusals.{number_of, verdict_number, value_or_zero}
use Rattle.model.specs.Sheets.{SheetValue, idle}
use Rattle.model.specs.Values.{head_of, sheet_of, empty_head, empty_sheet}
use Rattle.model.specs.declared.Kind.TheVariants.{Time, Space}
use Rattle.model.specs.declared.PriceRow.{PriceRow}
use Rattle.decimal.specs.Decimal.{all_digits, value_from, is_number, written, written_in}
use Rattle.sheet.specs.Answers.{answer_of}
use Rattle.sheet.specs.Lines.{split_at, after_key, value_line, number_line, same_bytes, number_lines}
use Rattle.text.specs.Keys.{form_key, kind_key, a_key, segs_key, size_key, rows_key, row_key, warm_key, hold_key, steps_key, refs_key}
use Rattle.text.specs.Keys.{ref_key}
use Rattle.text.specs.Keys.{kind_word}
use Rattle.sheet.specs.Reading.{Outcome, accepted, rejected, named_form, read_forms, read_sheet}
use Rattle.sheet.specs.Touches.{touch_line, touch_lines, placed_from, touches_from}
use Rattle.sheet.specs.Values.{kind_line, row_line, row_lines}
use Rattle.sheet.specs.Warm.{hold_line, hold_lines}
use Rattle.text.specs.Texts.{line_text, number_text, lines_text}
use Rattle.text.proofs.Strings.{bytes}
use Rattle.sheet.specs.Order.{sizes_part, prices_part, warm_part, tables_part, head_part}
use Rattle.sheet.specs.Order.{refs_part, plain_part, steps_part, run_part, body_part, sheet_part}
use Rattle.sheet.specs.Writing.{sheet_text}

-- the bytes of the sheet
listing : List ℕ
listing =
    bytes "kind=space\na=1\nsegs=2\nsize=1\nsize=3\nrows=2\nrow=1/2\nrow=1/1\nrefs=6\nref=0\nref=1\nref=0\nref=1\nref=1\nref=0\n"

-- its value
value-of-listing : SheetValue
value-of-listing =
    record {
      form = 1;
      head =
          record {
            kind = Space;
            a = 1;
            sizes = 1 ∷ 3 ∷ [];
            rows = record { h = 1; d = 2 } ∷ record { h = 1; d = 1 } ∷ [];
            warm = [];
          };
      entries = 0 ∷ 1 ∷ 0 ∷ 1 ∷ 1 ∷ 0 ∷ [];
      marks = [];
    }

listing-read : read_sheet listing ≡ accepted value-of-listing
unfolding bytes listing value-of-listing read_forms named_form sheet_part body_part head_part tables_part run_part sizes_part prices_part
    refs_part plain_part kind_line number_lines row_line row_lines split_at after_key value_line number_line same_bytes all_digits
    value_from is_number
listing-read = refl

listing-written : sheet_text value-of-listing ≡ listing
unfolding bytes listing value-of-listing sheet_text sheet_part body_part head_part tables_part run_part sizes_part prices_part refs_part
    plain_part lines_text written written_in
listing-written = refl

-- ---- the limits

-- the number of what reading comes to: 0 where the text is accepted, else that of the refusal
outcome_number : Outcome → ℕ
outcome_number (accepted v) = 0
outcome_number (rejected r) = number_of r

-- a text and that number
pub record Read : Type 0 where
  pub text : List ℕ
  pub number : ℕ

infix 70 ◌reads◌
◌reads◌ : List ℕ → ℕ → Read
text reads n = record { text = text; number = n }

-- every text of the list is read so
pub all_read : List Read → Bool
all_read [] = true
all_read (x ∷ xs) = eqb (outcome_number (read_sheet x.text)) x.number && all_read xs

-- the row h/d
price : ℕ → ℕ → PriceRow
price h d = record { h = h; d = d }

-- the text of a sheet of kind time with a, the sizes, the rows and the references
text_of : ℕ → List ℕ → List PriceRow → List ℕ → List ℕ
text_of a sizes rows refs =
    sheet_text (record {
      form = 1;
      head = record { kind = Time; a = a; sizes = sizes; rows = rows; warm = [] };
      entries = refs;
      marks = [];
    })

-- the lines of such a sheet up to segs=, up to rows= and up to refs= with these numbers, and nothing after them. Where the number is
-- within its range the refusal is 2, of the missing next line
to_segs : ℕ → List ℕ
to_segs segs = line_text kind_key (kind_word Time) ++ (number_text a_key 0 ++ number_text segs_key segs)

to_rows : ℕ → List ℕ
to_rows rows = to_segs 1 ++ (number_text size_key 1 ++ number_text rows_key rows)

to_refs : ℕ → List ℕ
to_refs refs = to_rows 1 ++ (line_text row_key (48 ∷ 47 ∷ 49 ∷ []) ++ number_text refs_key refs)

-- both sides of each limit of `Valid`, and of the order of rows
pub limits : List Read
limits =
    text_of 255 (1 ∷ []) (price 0 1 ∷ []) [] reads 0
    ∷ text_of 256 (1 ∷ []) (price 0 1 ∷ []) [] reads 4
    ∷ text_of 0 [] (price 0 1 ∷ []) [] reads 4
    ∷ to_segs 256 reads 2
    ∷ to_segs 257 reads 4
    ∷ text_of 0 (0 ∷ []) (price 0 1 ∷ []) [] reads 4
    ∷ text_of 0 (4095 ∷ []) (price 0 1 ∷ []) [] reads 0
    ∷ text_of 0 (4096 ∷ []) (price 0 1 ∷ []) [] reads 4
    ∷ text_of 0 (1 ∷ []) [] [] reads 4
    ∷ to_rows 64 reads 2
    ∷ to_rows 65 reads 4
    ∷ text_of 0 (1 ∷ []) (price 65535 1 ∷ []) [] reads 0
    ∷ text_of 0 (1 ∷ []) (price 65536 1 ∷ []) [] reads 4
    ∷ text_of 0 (1 ∷ []) (price 0 0 ∷ []) [] reads 4
    ∷ text_of 0 (1 ∷ []) (price 0 65535 ∷ []) [] reads 0
    ∷ text_of 0 (1 ∷ []) (price 0 65536 ∷ []) [] reads 4
    ∷ text_of 0 (1 ∷ []) (price 1 2 ∷ price 2 4 ∷ []) [] reads 5
    ∷ text_of 0 (1 ∷ []) (price 1 2 ∷ price 1 3 ∷ []) [] reads 5
    ∷ text_of 0 (1 ∷ []) (price 1 2 ∷ price 3 5 ∷ []) [] reads 0
    ∷ to_refs 2048 reads 2
    ∷ to_refs 2049 reads 4
    ∷ text_of 0 (1 ∷ 1 ∷ []) (price 0 1 ∷ []) (1 ∷ 0 ∷ []) reads 0
    ∷ text_of 0 (1 ∷ 1 ∷ []) (price 0 1 ∷ []) (0 ∷ 2 ∷ []) reads 4
    ∷ []

pub limits-hold : all_read limits ≡ true
unfolding outcome_number ◌reads◌ all_read price text_of to_segs to_rows to_refs limits read_forms named_form sheet_part body_part head_part
    tables_part run_part sizes_part prices_part refs_part plain_part kind_line number_lines row_line row_lines split_at after_key value_line
    number_line same_bytes all_digits value_from is_number sheet_text lines_text written written_in
limits-hold = refl

-- ---- which refusal comes first

-- the lines of a sheet up to the second of its two rows, and what follows them
after_row : List ℕ → List ℕ
after_row more = bytes "kind=time\na=0\nsegs=1\nsize=1\nrows=2\nrow=1/2\n" ++ more

pub first_refusals : List Read
first_refusals =
    -- no bytes; a line of another key, without its line feed, of a word that is none
    [] reads 2
    ∷ bytes "\n" reads 2
    ∷ bytes "Kind=time\n" reads 2
    ∷ bytes "kind=time" reads 2
    ∷ bytes "kind=tim\n" reads 3
    ∷ bytes "kind=\n" reads 3
    -- the first faulty line decides
    ∷ bytes "kind=tim\nb=0\n" reads 3
    ∷ bytes "kind=time\na=256\nsegs=x\n" reads 4
    -- a number as document 01 writes it
    ∷ bytes "kind=time\na=00\n" reads 3
    ∷ bytes "kind=time\na=+1\n" reads 3
    ∷ bytes "kind=time\na= 1\n" reads 3
    ∷ bytes "kind=time\na=\n" reads 3
    -- on a row line 2, then 3, then 4, then 5
    ∷ after_row (bytes "roe=0/x\n") reads 2
    ∷ after_row (bytes "row=0/x") reads 2
    ∷ after_row (bytes "row=65536/x\n") reads 3
    ∷ after_row (bytes "row=65536\n") reads 3
    ∷ after_row (bytes "row=0/65536\n") reads 4
    ∷ after_row (bytes "row=0/0\n") reads 4
    ∷ after_row (bytes "row=0/65535\n") reads 5
    ∷ after_row (bytes "row=2/3\nrefs=0\n") reads 0
    -- 6 after all lines, also for a line feed alone
    ∷ after_row (bytes "row=2/3\nrefs=0\n\n") reads 6
    ∷ after_row (bytes "row=2/3\nrefs=1\nref=1\n\n") reads 4
    -- the form line: 2, 3, then 4; form=1 is not known there, and what does not begin with form= is a kind line
    ∷ bytes "form=2" reads 2
    ∷ bytes "form=x\n" reads 3
    ∷ bytes "form=02\n" reads 3
    ∷ bytes "form=0\n" reads 4
    ∷ bytes "form=1\nkind=time\n" reads 4
    ∷ bytes "form=5\n" reads 4
    ∷ bytes "form\n" reads 2
    ∷ bytes "Form=2\n" reads 2
    -- the most bytes, by the form that the first line names: 1 before all lines
    ∷ replicate 20012 10 reads 2
    ∷ replicate 20013 10 reads 1
    ∷ (bytes "form=2" ++ replicate 20006 32) reads 2
    ∷ (bytes "form=2" ++ replicate 20007 32) reads 1
    ∷ (bytes "form=02\n" ++ replicate 20004 10) reads 3
    ∷ (bytes "form=02\n" ++ replicate 20005 10) reads 1
    ∷ (bytes "form=5\n" ++ replicate 20005 10) reads 4
    ∷ (bytes "form=5\n" ++ replicate 20006 10) reads 1
    ∷ (bytes "form=2\n" ++ replicate 29156 10) reads 2
    ∷ (bytes "form=2\n" ++ replicate 29157 10) reads 1
    ∷ (bytes "form=3\n" ++ replicate 31359 10) reads 2
    ∷ (bytes "form=3\n" ++ replicate 31360 10) reads 1
    ∷ (bytes "form=4\n" ++ replicate 33407 10) reads 2
    ∷ (bytes "form=4\n" ++ replicate 33408 10) reads 1
    ∷ []

pub first-refusals-hold : all_read first_refusals ≡ true
unfolding bytes outcome_number ◌reads◌ all_read after_row first_refusals read_forms named_form sheet_part body_part head_part tables_part
    run_part sizes_part prices_part refs_part plain_part kind_line number_lines row_line row_lines split_at after_key value_line
    number_line same_bytes all_digits value_from is_number
first-refusals-hold = refl

-- what reading answers: the number, and the form, the segments, the rows and the steps of the sheet, all of them 0 where it is refused
answered : List ℕ → List ℕ
answered s =
    verdict_number (answer_of (read_sheet s))
    ∷ (value_or_zero empty_sheet (answer_of (read_sheet s))).form
    ∷ (value_or_zero empty_sheet (answer_of (read_sheet s))).head.segs
    ∷ (value_or_zero empty_sheet (answer_of (read_sheet s))).head.rows
    ∷ (value_or_zero empty_sheet (answer_of (read_sheet s))).steps
    ∷ []

reading-answers : answered listing ++ answered [] ≡ 0 ∷ 1 ∷ 2 ∷ 2 ∷ 6 ∷ 2 ∷ 0 ∷ 0 ∷ 0 ∷ 0 ∷ []
unfolding bytes listing answered answer_of sheet_of head_of empty_sheet empty_head read_forms named_form sheet_part body_part head_part
    tables_part run_part sizes_part prices_part refs_part plain_part kind_line number_lines row_line row_lines split_at after_key
    value_line number_line same_bytes all_digits value_from is_number
reading-answers = refl

-- ---- the warm segments of form 3

-- the lines of a sheet of a form with three segments, up to its one row, and what follows them
sheet_with : ℕ → List ℕ → List ℕ
sheet_with form more =
    number_text form_key form
    ++ (line_text kind_key (kind_word Time)
    ++ (number_text a_key 0
    ++ (number_text segs_key 3
    ++ (lines_text (number_text size_key) (1 ∷ 1 ∷ 1 ∷ [])
    ++ (number_text rows_key 1
    ++ (line_text row_key (48 ∷ 47 ∷ 49 ∷ []) ++ more))))))

-- warm= with this number, and lines hold= with these
holding : ℕ → List ℕ → List ℕ
holding n xs = number_text warm_key n ++ lines_text (number_text hold_key) xs

-- a line hold= with a letter, and one with a leading zero
held_letter : List ℕ
held_letter = line_text hold_key (120 ∷ [])

held_zero : List ℕ
held_zero = line_text hold_key (48 ∷ 49 ∷ [])

-- a run of two steps with a touch of segment 1 in the second
one_touch : List ℕ
one_touch = number_text steps_key 2 ++ (number_text refs_key 1 ++ line_text ref_key (49 ∷ 64 ∷ 50 ∷ []))

-- the value of such a sheet
warmed : List ℕ → SheetValue
warmed warm =
    record {
      form = 3;
      head = record { kind = Time; a = 0; sizes = 1 ∷ 1 ∷ 1 ∷ []; rows = price 0 1 ∷ []; warm = warm };
      entries = idle ∷ 1 ∷ [];
      marks = [];
    }

-- a sheet of form 3 without warm segments and one with two, read and written
cold-read : read_sheet (sheet_with 3 (holding 0 [] ++ one_touch)) ≡ accepted (warmed [])
unfolding price sheet_with holding one_touch warmed read_forms named_form sheet_part body_part head_part tables_part run_part sizes_part
    prices_part warm_part steps_part kind_line number_lines row_line row_lines hold_line hold_lines touch_line touch_lines placed_from
    split_at after_key value_line number_line same_bytes all_digits value_from is_number lines_text written written_in
cold-read = refl

warm-read : read_sheet (sheet_with 3 (holding 2 (0 ∷ 2 ∷ []) ++ one_touch)) ≡ accepted (warmed (0 ∷ 2 ∷ []))
unfolding price sheet_with holding one_touch warmed read_forms named_form sheet_part body_part head_part tables_part run_part sizes_part
    prices_part warm_part steps_part kind_line number_lines row_line row_lines hold_line hold_lines touch_line touch_lines placed_from
    split_at after_key value_line number_line same_bytes all_digits value_from is_number lines_text written written_in
warm-read = refl

warm-written : sheet_text (warmed (0 ∷ 2 ∷ [])) ≡ sheet_with 3 (holding 2 (0 ∷ 2 ∷ []) ++ one_touch)
unfolding price sheet_with holding one_touch warmed touches_from sheet_text sheet_part body_part head_part tables_part run_part sizes_part
    prices_part warm_part steps_part lines_text written written_in
warm-written = refl

-- warm= from 0 to segs, and the lines hold=: 2, 3 and 4 as on every line, 19 for a number that is not above the one before. The first
-- faulty line decides: 19 stands before 3 and 4 of a later line
pub warmings : List Read
warmings =
    sheet_with 3 (holding 3 (0 ∷ 1 ∷ 2 ∷ []) ++ one_touch) reads 0
    ∷ sheet_with 3 one_touch reads 2
    ∷ sheet_with 3 (holding 4 []) reads 4
    ∷ sheet_with 3 (holding 2 (0 ∷ []) ++ one_touch) reads 2
    ∷ sheet_with 3 (holding 1 (0 ∷ 1 ∷ []) ++ one_touch) reads 2
    ∷ sheet_with 3 (holding 1 (3 ∷ []) ++ one_touch) reads 4
    ∷ sheet_with 3 (holding 2 (2 ∷ 3 ∷ []) ++ one_touch) reads 4
    ∷ sheet_with 3 (holding 2 (1 ∷ 1 ∷ []) ++ one_touch) reads 19
    ∷ sheet_with 3 (holding 2 (1 ∷ 0 ∷ []) ++ one_touch) reads 19
    ∷ sheet_with 3 (holding 2 (1 ∷ []) ++ held_letter) reads 3
    ∷ sheet_with 3 (holding 2 (1 ∷ []) ++ held_zero) reads 3
    ∷ sheet_with 3 (holding 3 (1 ∷ 1 ∷ []) ++ held_letter) reads 19
    ∷ sheet_with 3 (holding 3 (1 ∷ 1 ∷ 3 ∷ []) ++ one_touch) reads 19
    ∷ sheet_with 3 (holding 3 (3 ∷ 1 ∷ 1 ∷ []) ++ one_touch) reads 4
    ∷ sheet_with 2 one_touch reads 0
    ∷ sheet_with 2 (holding 0 [] ++ one_touch) reads 2
    ∷ sheet_with 4 (holding 2 (0 ∷ 2 ∷ []) ++ one_touch) reads 0
    ∷ sheet_with 4 (holding 2 (1 ∷ 1 ∷ []) ++ one_touch) reads 19
    ∷ sheet_with 4 one_touch reads 2
    ∷ sheet_with 5 (holding 0 [] ++ one_touch) reads 4
    ∷ []

pub warmings-hold : all_read warmings ≡ true
unfolding outcome_number ◌reads◌ all_read sheet_with holding held_letter held_zero one_touch warmings read_forms named_form sheet_part
    body_part head_part tables_part run_part sizes_part prices_part warm_part steps_part kind_line number_lines row_line row_lines
    hold_line hold_lines touch_line touch_lines placed_from split_at after_key value_line number_line same_bytes all_digits value_from
    is_number lines_text written written_in
warmings-hold = refl

-- a call that is not made for form 3 refuses such a sheet with 4 on the form line, one made for it alone a sheet of form 2
not_taken : outcome_number (read_forms 1 2 (sheet_with 3 (holding 2 (1 ∷ 1 ∷ []) ++ one_touch))) ≡ 4
unfolding outcome_number sheet_with holding one_touch read_forms named_form sheet_part body_part head_part tables_part run_part sizes_part
    prices_part warm_part steps_part kind_line number_lines row_line row_lines hold_line hold_lines touch_line touch_lines placed_from
    split_at after_key value_line number_line same_bytes all_digits value_from is_number lines_text written written_in
not_taken = refl

taken-alone : outcome_number (read_forms 3 3 (sheet_with 2 one_touch)) ≡ 4
unfolding outcome_number sheet_with one_touch read_forms named_form sheet_part body_part head_part tables_part run_part sizes_part
    prices_part warm_part steps_part kind_line number_lines row_line row_lines hold_line hold_lines touch_line touch_lines placed_from
    split_at after_key value_line number_line same_bytes all_digits value_from is_number lines_text written written_in
taken-alone = refl

-- ---- the letter w of form 4

-- the letter, and twice the letter
w : List ℕ
w = 119 ∷ []

ww : List ℕ
ww = 119 ∷ 119 ∷ []

-- a value segment@step with what stands after the step's digits
infix 75 ◌at◌followed◌
◌at◌followed◌ : ℕ → ℕ → List ℕ → List ℕ
x at step followed y = written x ++ (64 ∷ (written step ++ y))

-- a run of so many steps, with a line ref= for each value
touching : ℕ → List (List ℕ) → List ℕ
touching steps values = number_text steps_key steps ++ (number_text refs_key (length values) ++ lines_text (line_text ref_key) values)

-- a sheet of a form from 3 on with three segments, none of them warm, and such a run
marking : ℕ → ℕ → List (List ℕ) → List ℕ
marking form steps values = sheet_with form (holding 0 [] ++ touching steps values)

-- the value of such a sheet of form 4 with these entries and marks
marked : List ℕ → List Bool → SheetValue
marked refs marks =
    record {
      form = 4;
      head = record { kind = Time; a = 0; sizes = 1 ∷ 1 ∷ 1 ∷ []; rows = price 0 1 ∷ []; warm = [] };
      entries = refs;
      marks = marks;
    }

-- one touch that modifies; and two touches of four steps, of which the second does: read, with a mark for each step, and written
one-read : read_sheet (marking 4 1 (0 at 1 followed w ∷ [])) ≡ accepted (marked (0 ∷ []) (true ∷ []))
unfolding w ww ◌at◌followed◌ price sheet_with holding touching marking marked read_forms named_form sheet_part body_part head_part
    tables_part run_part sizes_part prices_part warm_part steps_part kind_line number_lines row_line row_lines hold_line hold_lines
    touch_line touch_lines placed_from split_at after_key value_line number_line same_bytes all_digits value_from is_number lines_text
    written written_in
one-read = refl

one_written : sheet_text (marked (0 ∷ []) (true ∷ [])) ≡ marking 4 1 (0 at 1 followed w ∷ [])
unfolding w ww ◌at◌followed◌ price sheet_with holding touching marking marked touches_from sheet_text sheet_part body_part head_part
    tables_part run_part sizes_part prices_part warm_part steps_part lines_text written written_in
one_written = refl

second-read : read_sheet (marking 4 4 (2 at 2 followed [] ∷ 1 at 3 followed w ∷ []))
    ≡ accepted (marked (idle ∷ 2 ∷ 1 ∷ idle ∷ []) (false ∷ false ∷ true ∷ false ∷ []))
unfolding w ww ◌at◌followed◌ price sheet_with holding touching marking marked read_forms named_form sheet_part body_part head_part
    tables_part run_part sizes_part prices_part warm_part steps_part kind_line number_lines row_line row_lines hold_line hold_lines
    touch_line touch_lines placed_from split_at after_key value_line number_line same_bytes all_digits value_from is_number lines_text
    written written_in
second-read = refl

second-written : sheet_text (marked (idle ∷ 2 ∷ 1 ∷ idle ∷ []) (false ∷ false ∷ true ∷ false ∷ []))
    ≡ marking 4 4 (2 at 2 followed [] ∷ 1 at 3 followed w ∷ [])
unfolding w ww ◌at◌followed◌ price sheet_with holding touching marking marked touches_from sheet_text sheet_part body_part head_part
    tables_part run_part sizes_part prices_part warm_part steps_part lines_text written written_in
second-written = refl

-- the letter stands once, lower-case, right after the step's digits, and in form 4 alone: else 3. The step is read without it: 4 and 16
-- stand where they do without the letter. The last step of the longest run may modify
pub markings : List Read
markings =
    marking 4 17 (0 at 17 followed w ∷ []) reads 0
    ∷ marking 4 17 (0 at 17 followed [] ∷ []) reads 0
    ∷ marking 4 17 (0 at 16 followed w ∷ 0 at 17 followed w ∷ []) reads 0
    ∷ marking 4 0 [] reads 0
    ∷ marking 4 17 (0 at 17 followed ww ∷ []) reads 3
    ∷ marking 4 1 (0 at 1 followed (87 ∷ []) ∷ []) reads 3
    ∷ marking 4 1 ((48 ∷ 64 ∷ w) ∷ []) reads 3
    ∷ marking 4 1 ((48 ∷ 64 ∷ 119 ∷ 49 ∷ []) ∷ []) reads 3
    ∷ marking 4 1 ((48 ∷ 119 ∷ 64 ∷ 49 ∷ []) ∷ []) reads 3
    ∷ marking 4 1 ((48 ∷ 119 ∷ []) ∷ []) reads 3
    ∷ marking 4 1 ((48 ∷ 64 ∷ 48 ∷ 49 ∷ w) ∷ []) reads 3
    ∷ marking 4 1 (0 at 1 followed (32 ∷ w) ∷ []) reads 3
    ∷ marking 4 12 (0 at 1 followed (119 ∷ 50 ∷ []) ∷ []) reads 3
    ∷ marking 4 17 (3 at 17 followed ww ∷ []) reads 3
    ∷ marking 4 17 (3 at 18 followed w ∷ []) reads 4
    ∷ marking 4 17 (0 at 18 followed w ∷ []) reads 16
    ∷ marking 4 17 (0 at 0 followed w ∷ []) reads 16
    ∷ marking 4 17 (0 at 17 followed w ∷ 1 at 17 followed w ∷ []) reads 16
    ∷ marking 4 17 (0 at 18 followed w ∷ 1 at 17 followed ww ∷ []) reads 16
    ∷ marking 3 17 (0 at 17 followed w ∷ []) reads 3
    ∷ marking 3 17 (0 at 18 followed w ∷ []) reads 3
    ∷ sheet_with 2 (touching 17 (0 at 17 followed w ∷ [])) reads 3
    ∷ (to_refs 1 ++ line_text ref_key (48 ∷ w)) reads 3
    ∷ marking 4 2048 (0 at 2048 followed w ∷ []) reads 0
    ∷ marking 4 2048 (0 at 2049 followed w ∷ []) reads 16
    ∷ marking 4 2049 [] reads 4
    ∷ (marking 4 1 (0 at 1 followed w ∷ []) ++ (10 ∷ [])) reads 6
    ∷ []

pub markings-hold : all_read markings ≡ true
unfolding outcome_number ◌reads◌ all_read to_segs to_rows to_refs refs_part plain_part markings w ww ◌at◌followed◌ price sheet_with
    holding touching marking marked read_forms named_form sheet_part body_part head_part tables_part run_part sizes_part prices_part
    warm_part steps_part kind_line number_lines row_line row_lines hold_line hold_lines touch_line touch_lines placed_from split_at
    after_key value_line number_line same_bytes all_digits value_from is_number lines_text written written_in
markings-hold = refl
