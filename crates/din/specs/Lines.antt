-- The lines of a din trace: a label 0, 1 or 2, one blank, a hexadecimal address of 1 to 8 digits, a line feed.
use Rattle.std.specs.Prelude.{ℕ, ◌+◌, ◌*◌, ◌-◌, Bool, true, cond, ◌&&◌, List, [], ◌∷◌, eqb, leb, ltb, length}
use Rattle.std.proofs.Math.Option.{Option, none, some}
use Rattle.text.specs.Keys.{line_feed}

-- the lines of a run of bytes, what stands before each line feed, and at the end the bytes that no line feed follows
pub data Lines : Type 0 where
  end : List ℕ → Lines
  line : List ℕ → Lines → Lines

-- one byte more at the front
abbrev pub and_before : ℕ → Lines → Lines
and_before b (end s) = end (b ∷ s)
and_before b (line s more) = line (b ∷ s) more

unfoldable pub trace_lines : List ℕ → Lines
trace_lines [] = end []
trace_lines (b ∷ s) = cond (eqb b line_feed) (line [] (trace_lines s)) (and_before b (trace_lines s))

-- a byte from lo to hi
abbrev pub between : ℕ → ℕ → ℕ → Bool
between lo hi b = leb lo b && leb b hi

-- the value of a hexadecimal digit of either case, "0" to "9", "A" to "F" or "a" to "f"; 16 for a byte that is none
unfoldable pub digit_of : ℕ → ℕ
digit_of b =
    cond (between 48 57 b) (b - 48) (cond (between 65 70 b) (b - 55) (cond (between 97 102 b) (b - 87) 16))

-- every byte is a digit
unfoldable pub all_digits : List ℕ → Bool
all_digits [] = true
all_digits (b ∷ s) = ltb (digit_of b) 16 && all_digits s

-- the value of the digits s that follow digits of the value v
unfoldable pub value_from : ℕ → List ℕ → ℕ
value_from v [] = v
value_from v (b ∷ s) = value_from (v * 16 + digit_of b) s

-- a label, "0" to "2", and the blank
abbrev pub is_label : ℕ → Bool
is_label b = between 48 50 b

abbrev pub blank : ℕ
blank = 32

-- the most digits of an address
abbrev pub most_digits : ℕ
most_digits = 8

-- the address of a line; none where the line is malformed
unfoldable pub address_of : List ℕ → Option ℕ
address_of [] = none
address_of (label ∷ []) = none
address_of (label ∷ b ∷ digits) =
    cond (is_label label && (eqb b blank && (all_digits digits && between 1 most_digits (length digits)))) (some (value_from 0 digits)) none
