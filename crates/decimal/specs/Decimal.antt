-- Decimal numbers as lists of bytes: which lists are numbers, the value of one, and the digits of a number.
use Rattle.std.specs.Prelude.{ℕ, zero, suc, ◌+◌, ◌*◌, ◌-◌, ◌/◌, ◌%◌, Bool, true, false, cond, not, ◌&&◌, List, [], ◌∷◌, ◌++◌, leb, ltb, eqb, Result, Ok, Err}
use Rattle.decimal.specs.declared.NumberError.{NumberError}
use Rattle.decimal.specs.declared.NumberError.TheVariants.{NotNumber, OutOfRange}

-- a byte is a digit: 48 ("0") to 57 ("9")
abbrev pub is_digit : ℕ → Bool
is_digit b = leb 48 b && leb b 57

-- every byte is a digit
unfoldable pub all_digits : List ℕ → Bool
all_digits [] = true
all_digits (b ∷ s) = is_digit b && all_digits s

-- the value of the digits s that follow digits of the value v
unfoldable pub value_from : ℕ → List ℕ → ℕ
value_from v [] = v
value_from v (b ∷ s) = value_from (v * 10 + (b - 48)) s

-- the value of a list of digits
abbrev pub value : List ℕ → ℕ
value s = value_from 0 s

-- a number as document 01 writes it: one or more digits, with no leading zero; 0 is written 0
unfoldable pub is_number : List ℕ → Bool
is_number [] = false
is_number (b ∷ []) = is_digit b
is_number (b ∷ c ∷ s) = not (eqb b 48) && all_digits (b ∷ c ∷ s)

-- the digits of n, of which there are at most k: the last one is n % 10, and before it stand those of n / 10
unfoldable pub written_in : ℕ → ℕ → List ℕ
written_in zero n = []
written_in (suc k) n = elim (ltb n 10) [ true ↦ (48 + n) ∷ [] | false ↦ written_in k (n / 10) ++ ((48 + n % 10) ∷ []) ]

-- the digits of n, with no leading zero
unfoldable pub written : ℕ → List ℕ
written n = written_in (suc n) n

-- what reading s as a number from lo to hi gives
abbrev pub reading_of : ℕ → ℕ → List ℕ → Result ℕ NumberError
reading_of lo hi s =
    cond (is_number s) (cond (leb lo (value s) && leb (value s) hi) (Ok (value s)) (Err OutOfRange)) (Err NotNumber)
