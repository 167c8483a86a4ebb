-- What is left of a list from a place on, as a part of a slice has it.
use Prim.Native.Nat.{ℕ, ◌+◌, ◌-◌, ◌≤◌}
use mathlib.Core.Path.{◌≡◌, sym, ap, ◌∙◌}
use mathlib.Core.List.{List}
use native.Mathlib.Omega.{arith}
use borrow.Author.Rules.{part_to_end}
use lib.ListN.{length, take, drop, length-drop}
use lib.Seq.{drop-drop}

-- the elements from n up to the length
abbrev pub tail : List ℕ → ℕ → List ℕ
tail s n = take (length s - n) (drop n s)

-- are all from n on
pub tail-is : (s : List ℕ) (n : ℕ) → tail s n ≡ drop n s
tail-is s n = part_to_end s n

-- a place in what is left from n on is a place of the whole
pub tail-place : (s : List ℕ) (n k : ℕ) → n ≤ length s → k ≤ length (tail s n) → n + k ≤ length s
tail-place s n k h l = omega (arith, ap length (tail-is s n), length-drop n s)

-- what is left of what is left
pub tail-tail : (s : List ℕ) (n k : ℕ) → tail (tail s n) k ≡ tail s (n + k)
tail-tail s n k = tail-is (tail s n) k ∙ (ap (drop k) (tail-is s n) ∙ (drop-drop k n s ∙ sym (tail-is s (n + k))))
