-- What the readers of short lines know of a number at the front of bytes.
use Rattle.std.specs.Prelude.{◌≤◌, ℕ, ◌≡◌, true, List, length, take}
use Rattle.decimal.specs.Decimal.{value, is_number}
use Rattle.decimal.specs.declared.Run.{Run}

-- the number at the front of s is of so many bytes and has that value
pub record FrontNumber (s : List ℕ) (r : Run) : Type 0 where
  pub within : r.length ≤ length s
  pub number : is_number (take r.length s) ≡ true
  pub value_is : r.value ≡ value (take r.length s)
