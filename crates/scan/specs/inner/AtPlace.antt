-- What a result of the reading code stands for: the code gives places in the bytes that it is lent, the definitions speak of bytes.
use Rattle.std.specs.Prelude.{ℕ, suc, ◌+◌, ◌-◌, ◌≤◌, ◌<◌, ◌≡◌, cond, List, length, take, drop, ltb, Option, Some, None, Result, Ok, Err, IfSome}
use Rattle.model.specs.declared.Refusal.{Refusal}
use Rattle.model.specs.declared.Refusal.TheVariants.{ValueMalformed, OutOfRange}
use Rattle.decimal.specs.declared.NumberError.{NumberError}
use Rattle.decimal.specs.declared.NumberError.TheVariants.{NotNumber, OutOfRange as Beyond}
use Rattle.decimal.specs.Decimal.{reading_of}
use Rattle.sheet.specs.Lines.{Parsed, read, refused, Split, parts, none as unsplit}
use Rattle.sheet.specs.Lines.{split_at, value_line}

-- what stands before the place i and what stands after it; a place at the end or past it splits nothing
abbrev pub split_at_place : List ℕ → ℕ → Split
split_at_place s i = cond (ltb i (length s)) (parts (take i s) (drop (suc i) s)) unsplit

-- what stands before a place that was found and what stands after it
abbrev pub split_found : List ℕ → Option ℕ → Split
split_found s None = unsplit
split_found s (Some k) = split_at_place s k

-- a reading as a value of a line: refusal 3 where it is no number, 4 where it lies outside its range
abbrev pub value_read : Result ℕ NumberError → Result ℕ Refusal
value_read (Ok n) = Ok n
value_read (Err NotNumber) = Err ValueMalformed
value_read (Err Beyond) = Err OutOfRange

-- the number lo to hi that a value stands for
abbrev pub number_value : ℕ → ℕ → List ℕ → Result ℕ Refusal
number_value lo hi v = value_read (reading_of lo hi v)

-- a value: the bytes from its first place up to its line feed, and what follows that
abbrev pub parsed_value : List ℕ → Result (ℕ × ℕ) Refusal → Parsed (List ℕ)
parsed_value s (Ok v) = read (take (v.1 - v.0) (drop v.0 s)) (drop (suc v.1) s)
parsed_value s (Err why) = refused why

-- a value's places lie within s
abbrev pub ValueWithin : List ℕ → Result (ℕ × ℕ) Refusal → Type 0
ValueWithin s (Ok v) = (v.0 ≤ v.1) × (v.1 < length s)
ValueWithin s (Err why) = Unit {0}

-- what a line gives and what follows from the next place on
abbrev pub parsed_line : {A : Type 0} → List ℕ → Result (A × ℕ) Refusal → Parsed A
parsed_line s (Ok x) = read x.0 (drop x.1 s)
parsed_line s (Err why) = refused why

-- the next place, 0 where there is none
abbrev pub line_next : {A : Type 0} → Result (A × ℕ) Refusal → ℕ
line_next (Ok x) = x.1
line_next (Err why) = 0

-- the value x of lines that were read, and what follows from the next place on
abbrev pub parsed_lines : {A : Type 0} → List ℕ → Result ℕ Refusal → A → Parsed A
parsed_lines s (Ok next) x = read x (drop next s)
parsed_lines s (Err why) x = refused why

abbrev pub lines_next : Result ℕ Refusal → ℕ
lines_next (Ok next) = next
lines_next (Err why) = 0

-- what was read from the place at on, as places of the whole
abbrev pub moved_on : ℕ → Result ℕ Refusal → Result ℕ Refusal
moved_on at (Ok next) = Ok (at + next)
moved_on at (Err why) = Err why

-- the number of lines that a count says, 0 where it is refused
abbrev pub counted_in : Parsed ℕ → ℕ
counted_in (read n rest) = n
counted_in (refused why) = 0

-- the place of what follows lines that were counted
abbrev pub list_end : Result (ℕ × ℕ) Refusal → Result ℕ Refusal
list_end (Ok x) = Ok x.1
list_end (Err why) = Err why

-- how many they are, m where they are refused
abbrev pub list_count : Result (ℕ × ℕ) Refusal → ℕ → ℕ
list_count (Ok x) m = x.0
list_count (Err why) m = m

-- ---- what the reading code knows of its results

-- the place of the first byte c of s, if there is one
pub record FoundAt (c : ℕ) (s : List ℕ) (place : Option ℕ) : Type 0 where
  pub within : IfSome place (λ k. k < length s)
  pub split : split_at c s ≡ split_found s place

-- the value of the line with the key at the head of s
pub record ValueReads (key s : List ℕ) (r : Result (ℕ × ℕ) Refusal) : Type 0 where
  pub same : parsed_value s r ≡ value_line key s
  pub within : ValueWithin s r

-- what was read from the head of s is what p says, and what follows it stands within s
pub record ReadsAs {A : Type 0} (s : List ℕ) (next : ℕ) (got p : Parsed A) : Type 0 where
  pub same : got ≡ p
  pub within : next ≤ length s

-- a line that was read from the head of s
abbrev pub LineReads : {A : Type 0} → List ℕ → Result (A × ℕ) Refusal → Parsed A → Type 0
LineReads s r p = ReadsAs s (line_next r) (parsed_line s r) p

-- lines that were read from the head of s, with the value x
abbrev pub LinesReads : {A : Type 0} → List ℕ → Result ℕ Refusal → A → Parsed A → Type 0
LinesReads s r x p = ReadsAs s (lines_next r) (parsed_lines s r x) p

-- what a value stands for, whatever the bytes s that it is from: p says it of what follows from the place next on
pub record StandsFor {A : Type 0} (next place : ℕ) (got p : List ℕ → Parsed A) : Type 0 where
  pub same : (s : List ℕ) → got s ≡ p (drop next s)
  pub within : place ≤ next

-- a line that is read where it is short
abbrev pub ShortReads : {A : Type 0} → List ℕ → Option (A × ℕ) → Parsed A → Type 0
ShortReads s r p = IfSome r (λ x. LineReads s (Ok x) p)

-- n values at the front of a list that is as long as the blank one, and blank behind them
pub record Filled {A : Type 0} (n : ℕ) (xs blank : List A) : Type 0 where
  pub within : n ≤ length blank
  pub whole : length xs ≡ length blank
  pub behind : drop n xs ≡ drop n blank

-- values that were read from the head of s stand at the front of xs, which was blank; where they are refused, what stands behind the first
-- m is still blank
pub record ListReads {A : Type 0} (s : List ℕ) (r : Result (ℕ × ℕ) Refusal) (m : ℕ) (xs blank : List A) (p : Parsed (List A)) :
    Type 0 where
  pub reads : LinesReads s (list_end r) (take (list_count r m) xs) p
  pub filled : Filled (list_count r m) xs blank
