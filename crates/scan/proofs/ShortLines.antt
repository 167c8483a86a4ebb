-- Laws of a line whose number is read up to the byte after its digits.
use Prim.Native.Nat.{ℕ, ◌+◌, ◌-◌, ◌≤◌, ◌<◌}
use mathlib.Core.Path.{◌≡◌, refl, sym, ap, ◌∙◌}
use mathlib.Core.Bool.{true}
use mathlib.Core.List.{List}
use native.Mathlib.Omega.{arith}
use lib.ListN.{length, get_or, take, drop}
use lib.Seq.{length-take-le, get_or-take, get_or-drop}
use Rattle.std.specs.Prelude.{Ok}
use Rattle.decimal.specs.Decimal.{value, is_number, reading_of}
use Rattle.decimal.proofs.Digits.{digit_at, number_digits}
use Rattle.decimal.proofs.Readings.{reading-within}
use Rattle.text.specs.Keys.{line_feed}
use Rattle.sheet.specs.Lines.{read, none, split_at, same_bytes, in_range, number_line}
use Rattle.scan.specs.inner.AtPlace.{split_at_place}
use Rattle.scan.proofs.KeyedLines.{between, line-value}
use Rattle.scan.proofs.Splits.{split-first}
use Rattle.scan.proofs.Tails.{tail, tail-is}

-- a line whose key is followed by a number of k digits and by a line feed, with the number v within its range
pub short-number : (key s : List ℕ) → split_at line_feed key ≡ none → same_bytes (take (length key) s) key ≡ true
    → (lo hi k v : ℕ) → k ≤ length (tail s (length key)) → is_number (take k (tail s (length key))) ≡ true
    → v ≡ value (take k (tail s (length key))) → length key + k < length s → get_or s (length key + k) 0 ≡ line_feed
    → lo ≤ v → v ≤ hi → number_line key lo hi s ≡ read v (drop (length key + k + 1) s)
unfolding number_line
short-number key s n e lo hi k v w num am h feed l u =
    let t = tail s (length key) in
    let m = length-take-le k t w in
    let other : (j : ℕ) → j < k → get_or t j 0 ≡ line_feed → ⊥ = λ j i z.
    omega (arith, digit_at (take k t) (number_digits (take k t) num) j (omega (arith, m)), get_or-take k t j 0 i) in
    let there : get_or t k 0 ≡ line_feed = ap (λ x. get_or x k 0) (tail-is s (length key)) ∙ (get_or-drop (length key) s k 0 ∙ feed) in
    let f : split_at line_feed t ≡ split_at_place t k = split-first line_feed t k w other (λ i. there) in
    let d : length key + k - length key ≡ k = omega arith in
    let x : take (length key + k - length key) (drop (length key) s) ≡ take k t =
    ap (λ i. take i (drop (length key) s)) d ∙ ap (take k) (sym (tail-is s (length key))) in
    let rest = drop (length key + k + 1) s in
    line-value key s (Ok (length key, length key + k)) (sym (between key s n e k f h))
    (λ y end. in_range (reading_of lo hi y) end) (length key) (length key + k) refl
    ∙ (ap (λ y. in_range (reading_of lo hi y) rest) x
    ∙ (ap (λ r. in_range r rest) (reading-within lo hi (take k t) num (omega (arith, am)) (omega (arith, am)))
    ∙ ap (λ i. read i rest) (sym am)))
