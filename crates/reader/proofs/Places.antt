-- Laws of the parts before and after a byte, where its place is known, and of the place past a line.
use Prim.Native.Nat.{ℕ, zero, suc, ◌+◌, ◌-◌, ◌≤◌}
use mathlib.Core.Path.{◌≡◌, refl, sym, ap, ◌∙◌}
use mathlib.Core.List.{List, [], ◌∷◌, ◌++◌}
use native.Mathlib.Nat.{not-suc-le-zero}
use native.Mathlib.Omega.{arith}
use lib.ListN.{length, drop, length-append, length-drop, drop_of_length-le}
use lib.Seq.{drop-drop}
use Rattle.text.specs.Keys.{line_feed}
use Rattle.sheet.specs.Lines.{Split, parts, none, split_at}
use Rattle.sheet.proofs.Parsing.{split-back}
use Rattle.reader.specs.Along.{left_after}
use Rattle.reader.specs.Parts.{part_after, line_value, after_line, place_after}

-- what stands after a byte is no longer than the whole
pub after-length : (c : ℕ) (s : List ℕ) → length (part_after (split_at c s)) ≤ length s
after-length c s = go (split_at c s) refl
  where
    go : (p : Split) → split_at c s ≡ p → length (part_after p) ≤ length s
    go (parts x y) e = omega (arith, ap length (split-back c s x y e), length-append x (c ∷ y))
    go none e = omega arith

-- what stands past a byte
drop_past : (x : List ℕ) (b : ℕ) (y : List ℕ) → drop (suc (length x)) (x ++ (b ∷ y)) ≡ y
drop_past [] b y = refl
drop_past (a ∷ x) b y = drop_past x b y

-- what is left from the place past a line on is what follows the line
pub left_after_lem : (s : List ℕ) (at : ℕ) → drop (place_after s at) s ≡ after_line (drop at s)
left_after_lem s at = go (split_at line_feed (drop at s)) refl
  where
    go : (p : Split) → split_at line_feed (drop at s) ≡ p → drop (length s - length (part_after p)) s ≡ part_after p
    go (parts x y) e =
        let t = split-back line_feed (drop at s) x y e in
        let l = length-append x (line_feed ∷ y) in
        let n : length s - length y ≡ at + suc (length x) = omega (arith, ap length t, l, length-drop at s) in
        let d : drop (suc (length x)) (drop at s) ≡ y = rw t (drop_past x line_feed y) in
        rw n (sym (drop-drop (suc (length x)) at s) ∙ d)
    go none e = drop_of_length-le s {i = length s - 0} (omega arith)

-- one line more
pub left-more : (n : ℕ) (s : List ℕ) → after_line (left_after n s) ≡ left_after (suc n) s
unfolding left_after
left-more zero s = refl
left-more (suc n) s = left-more n (after_line s)

-- a line takes one byte at least
after-shorter : (n : ℕ) (s : List ℕ) → length s ≤ suc n → length (after_line s) ≤ n
after-shorter n s h = go (split_at line_feed s) refl
  where
    go : (p : Split) → split_at line_feed s ≡ p → length (part_after p) ≤ n
    go (parts x y) e = omega (arith, h, ap length (split-back line_feed s x y e), length-append x (line_feed ∷ y))
    go none e = omega arith

-- so there are no more lines than bytes
pub left-none : (n : ℕ) (s : List ℕ) → length s ≤ n → left_after n s ≡ []
unfolding left_after
left-none zero [] h = refl
left-none zero (b ∷ s) h = absurd (not-suc-le-zero h)
left-none (suc n) s h = left-none n (after_line s) (after-shorter n s h)

-- and beyond them nothing is shown
pub value_none : (n : ℕ) (s : List ℕ) → length s ≤ n → [] ≡ line_value (left_after n s)
unfolding split_at
value_none n s h = rw (left-none n s h)
