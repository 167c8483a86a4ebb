-- The first of the lines of a din trace, and a line by places in the bytes.
use Rattle.std.specs.Prelude.{ℕ, ◌+◌, ◌≤◌, cond, ◌&&◌, List, [], ◌∷◌, length, drop, Option, Some, None}
use Rattle.std.proofs.Math.Option.{Option as Address, none, some}
use Rattle.din.specs.Lines.{Lines, end, line, trace_lines, between, all_digits, value_from, most_digits, address_of}
use Rattle.din.specs.declared.lines.LineAt.{LineAt}

-- the first of the lines: its address and the lines after it, or that it is malformed, or that there is no byte left
pub data First : Type 0 where
  nothing : First
  malformed : First
  address : ℕ → Lines → First

abbrev pub with_address : Address ℕ → Lines → First
with_address none more = malformed
with_address (some a) more = address a more

unfoldable pub first_of : Lines → First
first_of (end []) = nothing
first_of (end (b ∷ s)) = malformed
first_of (line s more) = with_address (address_of s) more

-- the same of lines the first of which lacks its label, its blank and n digits of the value v
unfoldable pub first_after : ℕ → ℕ → Lines → First
first_after v n (end s) = malformed
first_after v n (line s more) =
    cond (all_digits s && between 1 most_digits (n + length s)) (address (value_from v s) more) malformed

-- a line that the code found in the bytes s
abbrev pub first_at : List ℕ → Option LineAt → First
first_at s (Some l) = address l.address (trace_lines (drop l.next s))
first_at s None = malformed

-- the next place lies within s, and is not the first
abbrev pub NextWithin : List ℕ → Option LineAt → Type 0
NextWithin s (Some l) = (1 ≤ l.next) × (l.next ≤ length s)
NextWithin s None = Unit {0}
