-- Reading one line after another from the head of a run of bytes. A line is what stands before a line feed; its value is what stands
-- after its key and "=".
use Rattle.std.specs.Prelude.{ℕ, zero, suc, Bool, true, false, cond, List, [], ◌∷◌, eqb, Result, Ok, Err}
use Rattle.model.specs.declared.Refusal.{Refusal}
use Rattle.model.specs.declared.Refusal.TheVariants.{LineMalformed, ValueMalformed, OutOfRange}
use Rattle.decimal.specs.Decimal.{reading_of}
use Rattle.decimal.specs.declared.NumberError.{NumberError}
use Rattle.decimal.specs.declared.NumberError.TheVariants.{NotNumber, OutOfRange as Beyond}
use Rattle.text.specs.Keys.{line_feed}

-- what reading gives: a value and the bytes that follow it, or the refusal
pub data Parsed (A : Type 0) : Type 0 where
  read : A → List ℕ → Parsed A
  refused : Refusal → Parsed A

-- go on with what was read and what follows it; the first refusal stands
abbrev pub and_then : {A B : Type 0} → Parsed A → (A → List ℕ → Parsed B) → Parsed B
and_then (read a rest) f = f a rest
and_then (refused r) f = refused r

-- two parts of a run of bytes, or that there is no such place
pub data Split : Type 0 where
  parts : List ℕ → List ℕ → Split
  none : Split

-- one byte more at the front of the first part
abbrev pub and_before : ℕ → Split → Split
and_before b (parts x y) = parts (b ∷ x) y
and_before b none = none

-- what stands before the first byte c, and what stands after it
unfoldable pub split_at : ℕ → List ℕ → Split
split_at c [] = none
split_at c (b ∷ s) = cond (eqb b c) (parts [] s) (and_before b (split_at c s))

-- two runs of bytes are the same
unfoldable pub same_bytes : List ℕ → List ℕ → Bool
same_bytes [] [] = true
same_bytes [] (y ∷ ys) = false
same_bytes (x ∷ xs) [] = false
same_bytes (x ∷ xs) (y ∷ ys) = cond (eqb x y) (same_bytes xs ys) false

-- what stands after the key, with the bytes that follow the line: refusal 2 where the line does not begin with its key
unfoldable pub after_key : List ℕ → List ℕ → List ℕ → Parsed (List ℕ)
after_key [] line rest = read line rest
after_key (k ∷ key) [] rest = refused LineMalformed
after_key (k ∷ key) (b ∷ line) rest = cond (eqb b k) (after_key key line rest) (refused LineMalformed)

-- the value of a line that is split off: refusal 2 where it is missing or lacks its line feed
abbrev pub of_line : List ℕ → Split → Parsed (List ℕ)
of_line key (parts line rest) = after_key key line rest
of_line key none = refused LineMalformed

-- the value of the line at the head of s
unfoldable pub value_line : List ℕ → List ℕ → Parsed (List ℕ)
value_line key s = of_line key (split_at line_feed s)

-- a number within its range: refusal 3 where it is none, 4 where it lies outside
abbrev pub in_range : Result ℕ NumberError → List ℕ → Parsed ℕ
in_range (Err NotNumber) rest = refused ValueMalformed
in_range (Err Beyond) rest = refused OutOfRange
in_range (Ok n) rest = read n rest

-- the number lo to hi of the line at the head of s
unfoldable pub number_line : List ℕ → ℕ → ℕ → List ℕ → Parsed ℕ
number_line key lo hi s = and_then (value_line key s) (λ v rest. in_range (reading_of lo hi v) rest)

-- n lines with the same key, each a number lo to hi
unfoldable pub number_lines : List ℕ → ℕ → ℕ → ℕ → List ℕ → Parsed (List ℕ)
number_lines key lo hi zero s = read [] s
number_lines key lo hi (suc n) s =
    and_then (number_line key lo hi s) (λ x rest. and_then (number_lines key lo hi n rest) (λ xs end. read (x ∷ xs) end))
