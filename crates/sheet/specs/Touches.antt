-- The touches of a sheet of form 2 on as their lines ref= say them, segment and step (request F-3) and in form 4 whether they modify
-- (request F-13), and the entry and the mark of each step that they come to.
use Rattle.std.specs.Prelude.{ℕ, zero, suc, ◌-◌, Bool, true, false, cond, ◌&&◌, List, [], ◌∷◌, ◌++◌, replicate, eqb, leb, ltb}
use Rattle.model.specs.declared.Refusal.TheVariants.{ValueMalformed, OutOfRange, StepNotAbove}
use Rattle.decimal.specs.Decimal.{is_number, value, written}
use Rattle.text.specs.Keys.{at_sign, mark_letter, ref_key}
use Rattle.text.specs.Texts.{line_text, lines_text}
use Rattle.model.specs.Sheets.{idle, marks_of}
use Rattle.sheet.specs.Lines.{Parsed, read, refused, and_then, Split, parts, none as unsplit, split_at, value_line}

-- a touch: its segment, its step, counted from 1, and whether it modifies the segment
pub record Touch : Type 0 where
  pub segment : ℕ
  pub step : ℕ
  pub modifies : Bool

-- for each step its entry, and for each its mark, or no marks
pub record Entries : Type 0 where
  pub entries : List ℕ
  pub marks : List Bool

-- ---- reading

-- what stands before the letter w at the end of y, and that it stands there; all of y where it does not
abbrev pub before_letter : List ℕ → Split → List ℕ × Bool
before_letter y (parts x []) = (x, true)
before_letter y (parts x (b ∷ z)) = (y, false)
before_letter y unsplit = (y, false)

-- what stands for the step in y, and whether the letter w follows it, in a form that has the letter
abbrev pub step_part : Bool → List ℕ → List ℕ × Bool
step_part letters y = cond letters (before_letter y (split_at mark_letter y)) (y, false)

-- a touch of two values after the step `before`: refusal 3 where one is no number, then 4 where the segment is not below segs, then 16
-- where the step is not above the one before or lies beyond steps
abbrev pub touch_of : ℕ → ℕ → ℕ → List ℕ → List ℕ → Bool → List ℕ → Parsed Touch
touch_of segs steps before x y modifies rest =
    cond (is_number x && is_number y)
    (cond (ltb (value x) segs)
    (cond (ltb before (value y) && leb (value y) steps)
    (read (record { segment = value x; step = value y; modifies = modifies }) rest)
    (refused StepNotAbove))
    (refused OutOfRange))
    (refused ValueMalformed)

-- a touch's value is two numbers around "@", in form 4 with the letter w after the second where it modifies: refusal 3 where there is no
-- "@"
abbrev pub touch_parts : Bool → ℕ → ℕ → ℕ → Split → List ℕ → Parsed Touch
touch_parts letters segs steps before (parts x y) rest = touch_of segs steps before x (step_part letters y).0 (step_part letters y).1 rest
touch_parts letters segs steps before unsplit rest = refused ValueMalformed

-- the line ref= after the step `before`
unfoldable pub touch_line : Bool → ℕ → ℕ → ℕ → List ℕ → Parsed Touch
touch_line letters segs steps before s =
    and_then (value_line ref_key s) (λ v rest. touch_parts letters segs steps before (split_at at_sign v) rest)

-- n lines ref=, the first after the step `before`
unfoldable pub touch_lines : Bool → ℕ → ℕ → ℕ → ℕ → List ℕ → Parsed (List Touch)
touch_lines letters segs steps zero before s = read [] s
touch_lines letters segs steps (suc n) before s =
    and_then (touch_line letters segs steps before s)
    (λ x rest. and_then (touch_lines letters segs steps n x.step rest) (λ xs end. read (x ∷ xs) end))

-- for each step after `before`, up to `steps`, what f says of its touch, and `blank` where it has none
unfoldable pub placed_from : {A : Type 0} → A → (Touch → A) → ℕ → ℕ → List Touch → List A
placed_from blank f before steps [] = replicate (steps - before) blank
placed_from blank f before steps (x ∷ xs) = replicate (x.step - suc before) blank ++ (f x ∷ placed_from blank f x.step steps xs)

-- the entries: a touch's segment in its step, and no touch in the others
abbrev pub entries_from : ℕ → ℕ → List Touch → List ℕ
entries_from before steps xs = placed_from idle (λ x. x.segment) before steps xs

-- the marks: whether the touch of a step modifies
abbrev pub marks_from : ℕ → ℕ → List Touch → List Bool
marks_from before steps xs = placed_from false (λ x. x.modifies) before steps xs

-- the entries of touches and, in a form that has the letter, the marks
abbrev pub entries_of : Bool → ℕ → List Touch → Entries
entries_of letters steps xs = record { entries = entries_from 0 steps xs; marks = cond letters (marks_from 0 steps xs) [] }

-- those of n lines ref=
abbrev pub entry_lines : Bool → ℕ → ℕ → ℕ → List ℕ → Parsed Entries
entry_lines letters segs steps n s = and_then (touch_lines letters segs steps n 0 s) (λ xs rest. read (entries_of letters steps xs) rest)

-- ---- writing

-- the touches of entries whose first is that of the step after `before`; marks t says that the touch in the step at place t modifies
unfoldable pub touches_from : (ℕ → Bool) → ℕ → List ℕ → List Touch
touches_from marks before [] = []
touches_from marks before (x ∷ xs) =
    cond (eqb x idle) (touches_from marks (suc before) xs)
    (record { segment = x; step = suc before; modifies = marks before } ∷ touches_from marks (suc before) xs)

-- the touches of all entries
abbrev pub touches_of : Entries → List Touch
touches_of e = touches_from (marks_of e.marks) 0 e.entries

-- the digits of a step, and the letter w of a touch that modifies
abbrev pub step_word : Bool → ℕ → List ℕ
step_word modifies step = cond modifies (written step ++ (mark_letter ∷ [])) (written step)

-- the value of a touch's line: segment@step, with the letter w where it modifies
abbrev pub touch_word : Touch → List ℕ
touch_word x = written x.segment ++ (at_sign ∷ step_word x.modifies x.step)

-- the line of a touch
abbrev pub touch_text : Touch → List ℕ
touch_text x = line_text ref_key (touch_word x)

-- a line for each touch
abbrev pub touches_text : List Touch → List ℕ
touches_text xs = lines_text touch_text xs
