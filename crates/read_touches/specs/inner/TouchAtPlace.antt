-- What the results of reading one line of a touch stand for, as the code gives places in the bytes that it is lent.
use Rattle.std.specs.Prelude.{ℕ, ◌+◌, ◌≤◌, ◌<◌, ◌≡◌, Bool, true, List, ◌∷◌, ◌++◌, ltb, length, take, drop, Option, Result, Ok, Err, IfSome}
use Rattle.decimal.specs.Decimal.{written}
use Rattle.decimal.specs.declared.NumberError.{NumberError}
use Rattle.decimal.specs.declared.NumberError.TheVariants.{NotNumber, OutOfRange as Beyond}
use Rattle.model.specs.declared.Refusal.{Refusal}
use Rattle.model.specs.declared.Refusal.TheVariants.{ValueMalformed, OutOfRange, StepNotAbove}
use Rattle.sheet.specs.Lines.{Parsed, read, refused}
use Rattle.sheet.specs.Touches.{Touch, step_part, step_word}
use Rattle.decimal.specs.declared.Run.{Run}
use Rattle.model.specs.Sheets.{most_segs, most_steps}
use Rattle.scan.specs.inner.AtPlace.{line_next, ReadsAs}
use Rattle.text.specs.Keys.{line_feed}
use Rattle.read_touches.specs.declared.Touch.{Touch as TouchRead}
use Rattle.read_touches.specs.declared.short_touch.StepShort.{StepShort}

-- the touch of two readings, that of the segment and that of the step: refusal 3 where one is no number, then 4 where the segment lies
-- outside its range, then 16 where the step does
abbrev pub touch_of_two : Result ℕ NumberError → Result ℕ NumberError → Bool → Result TouchRead Refusal
touch_of_two (Err NotNumber) y modifies = Err ValueMalformed
touch_of_two (Err Beyond) (Err NotNumber) modifies = Err ValueMalformed
touch_of_two (Err Beyond) (Err Beyond) modifies = Err OutOfRange
touch_of_two (Err Beyond) (Ok m) modifies = Err OutOfRange
touch_of_two (Ok n) (Err NotNumber) modifies = Err ValueMalformed
touch_of_two (Ok n) (Err Beyond) modifies = Err StepNotAbove
touch_of_two (Ok n) (Ok m) modifies = Ok (record { segment = n; step = m; modifies = modifies })

-- a touch that was read
abbrev pub the_touch : TouchRead → Touch
the_touch x = record { segment = x.segment; step = x.step; modifies = x.modifies }

-- a touch that was read, and what follows it
abbrev pub touch_before : Result TouchRead Refusal → List ℕ → Parsed Touch
touch_before (Ok x) rest = read (the_touch x) rest
touch_before (Err why) rest = refused why

-- the same where what follows stands at a place
abbrev pub parsed_touch : List ℕ → Result (TouchRead × ℕ) Refusal → Parsed Touch
parsed_touch s (Ok x) = read (the_touch x.0) (drop x.1 s)
parsed_touch s (Err why) = refused why

-- a touch's line that was read from the head of s
abbrev pub TouchReads : List ℕ → Result (TouchRead × ℕ) Refusal → Parsed Touch → Type 0
TouchReads s r p = ReadsAs s (line_next r) (parsed_touch s r) p

-- one that is read where it is short
abbrev pub ShortTouchReads : List ℕ → Option (TouchRead × ℕ) → Parsed Touch → Type 0
ShortTouchReads s r p = IfSome r (λ x. TouchReads s (Ok x) p)

-- what a line of a touch is read with: there is a segment, and the step of the touch before it is one of the steps
pub record TouchBounds (segs steps before : ℕ) : Type 0 where
  pub some : 1 ≤ segs
  pub few : segs ≤ most_segs
  pub short : steps ≤ most_steps
  pub within : before ≤ steps

-- the first r bytes of y stand for the step, and the letter w follows them where one more does
pub record StepBytes (letters : Bool) (y : List ℕ) (r : ℕ) : Type 0 where
  pub within : r ≤ length y
  pub split : step_part letters y ≡ (take r y, ltb r (length y))

-- a number at the front of s, where the byte mark follows it
pub record NumberBefore (s : List ℕ) (mark : ℕ) (r : Run) : Type 0 where
  pub within : r.length < length s
  pub same : s ≡ written r.value ++ (mark ∷ drop (r.length + 1) s)

-- a step at the front of s and perhaps the letter w, where a line feed follows
pub record StepBefore (s : List ℕ) (letters : Bool) (r : StepShort) : Type 0 where
  pub within : r.next ≤ length s
  pub letter : r.modifies ≡ true → letters ≡ true
  pub same : s ≡ step_word r.modifies r.step ++ (line_feed ∷ drop r.next s)
