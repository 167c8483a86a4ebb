-- Laws of a line with its key: the key is compared first and the line feed looked for behind it.
use Prim.Native.Nat.{ℕ, suc, ◌+◌, ◌-◌, ◌≤◌, ◌<◌}
use mathlib.Core.Path.{◌≡◌, refl, sym, ap, subst, ◌∙◌}
use mathlib.Core.Bool.{Bool, true, false, cond, false≢true}
use mathlib.Core.List.{List, [], ◌∷◌}
use native.Mathlib.Nat.{add-suc}
use native.Mathlib.Numerals.{add-one}
use native.Mathlib.Omega.{arith}
use borrow.Author.Tests.{eqb-true, leb-true, leb-false}
use borrow.Table.Steps.{cases}
use lib.Dec.{eqb, leb}
use lib.ListN.{length, take, drop, length-take, length-drop}
use lib.Seq.{drop-drop}
use Rattle.std.specs.Prelude.{Result, Ok, Err}
use Rattle.model.specs.declared.Refusal.{Refusal}
use Rattle.model.specs.declared.Refusal.TheVariants.{LineMalformed}
use Rattle.text.specs.Keys.{line_feed}
use Rattle.sheet.specs.Lines.{Parsed, refused, and_then, Split, parts, none, and_before, split_at, same_bytes, after_key, of_line}
use Rattle.sheet.specs.Lines.{value_line}
use Rattle.scan.specs.inner.AtPlace.{split_at_place, parsed_value, ValueWithin}
use Rattle.scan.proofs.Splits.{same-lengths, place-within}
use Rattle.scan.proofs.Tails.{tail, tail-is}

-- bytes without c: the first is another, and the rest is without c
without-head : (c b : ℕ) (s : List ℕ) → split_at c (b ∷ s) ≡ none → eqb b c ≡ false
unfolding split_at
without-head c b s e = cases (eqb b c) (λ t. let z = rw t at e in cc) (λ t. t)

without-tail : (c b : ℕ) (s : List ℕ) → split_at c (b ∷ s) ≡ none → split_at c s ≡ none
unfolding split_at
without-tail c b s e = go (eqb b c) (split_at c s) e
  where
    go : (t : Bool) (p : Split) → cond t (parts [] s) (and_before b p) ≡ none → p ≡ none
    go true p e = cc
    go false (parts x y) e = cc
    go false none e = refl

-- a line that starts with the first byte of its key, and one that starts with another
same_head : (k : ℕ) (key : List ℕ) (b : ℕ) (p : Split) → eqb b k ≡ true → of_line (k ∷ key) (and_before b p) ≡ of_line key p
unfolding after_key
same_head k key b (parts x y) e = rw e
same_head k key b none e = refl

other-head : (k : ℕ) (key : List ℕ) (b : ℕ) (s : List ℕ) (t : Bool) (p : Split) → eqb b k ≡ false
    → of_line (k ∷ key) (cond t (parts [] s) (and_before b p)) ≡ refused LineMalformed
unfolding after_key
other-head k key b s true p e = refl
other-head k key b s false (parts x y) e = rw e
other-head k key b s false none e = refl

-- a key without a line feed: where the bytes start with it, the value is what stands behind it up to the line feed
pub keyed : (key s : List ℕ) → split_at line_feed key ≡ none
    → value_line key s ≡ cond (same_bytes (take (length key) s) key) (value_line [] (drop (length key) s)) (refused LineMalformed)
unfolding value_line same_bytes split_at after_key
keyed [] s n = refl
keyed (k ∷ key) [] n = refl
keyed (k ∷ key) (b ∷ s) n =
    let feed : eqb b k ≡ true → eqb b line_feed ≡ false = λ e.
    ap (λ x. eqb x line_feed) (eqb-true b k e) ∙ without-head line_feed k key n in
    cases (eqb b k)
    (λ e. rw (e, feed e) (same_head k key b (split_at line_feed s) e ∙ keyed key s (without-tail line_feed k key n)))
    (λ e. rw e (other-head k key b s (eqb b line_feed) (split_at line_feed s) e))

-- bytes that are shorter than a key do not start with it
pub short-key : (s key : List ℕ) → length s < length key → same_bytes (take (length key) s) key ≡ false
short-key s key h = same-lengths (take (length key) s) key (λ e. omega (arith, length-take (length key) s))

-- bytes that start with a key are at least as long
pub long-key : (s key : List ℕ) → same_bytes (take (length key) s) key ≡ true → length key ≤ length s
long-key s key e =
    cases (leb (length key) (length s)) (leb-true (length key) (length s))
    (λ l. absurd (false≢true (sym (short-key s key (leb-false (length key) (length s) l)) ∙ e)))

module _ (key s : List ℕ) (n : split_at line_feed key ≡ none) where
  -- without its key the line is not there
  pub no_key : same_bytes (take (length key) s) key ≡ false → value_line key s ≡ refused LineMalformed
  no_key e = keyed key s n ∙ rw e

  module _ (e : same_bytes (take (length key) s) key ≡ true) where
    -- without a line feed behind its key neither
    pub no-feed : split_at line_feed (tail s (length key)) ≡ none → value_line key s ≡ refused LineMalformed
    unfolding value_line
    no-feed f = let f' : split_at line_feed (drop (length key) s) ≡ none = rw tail-is at f in keyed key s n ∙ rw (e, f')

    -- else the value stands between the two
    pub between : (k : ℕ) → split_at line_feed (tail s (length key)) ≡ split_at_place (tail s (length key)) k → length key + k < length s
        → value_line key s ≡ parsed_value s (Ok (length key, length key + k))
    unfolding value_line after_key
    between k f h =
        let f' : split_at line_feed (drop (length key) s) ≡ split_at_place (drop (length key) s) k = rw tail-is at f in
        let g : k < length (drop (length key) s) = omega (arith, length-drop (length key) s) in
        let d : length key + k - length key ≡ k = omega arith in
        keyed key s n ∙ rw (e, f', place-within (drop (length key) s) k g, drop-drop (suc k) (length key) s, add-suc, d)

-- what a reader of a line goes on with, where the code refused its value, and where it found one
module _ (key s : List ℕ) (r : Result (ℕ × ℕ) Refusal) (e : parsed_value s r ≡ value_line key s) {B : Type 0}
    (f : List ℕ → List ℕ → Parsed B) where
  pub line-missing : (why : Refusal) → r ≡ Err why → and_then (value_line key s) f ≡ refused why
  line-missing why m = ap (λ p. and_then p f) (sym e ∙ ap (parsed_value s) m)

  pub line-value : (start end : ℕ) → r ≡ Ok (start, end)
      → and_then (value_line key s) f ≡ f (take (end - start) (drop start s)) (drop (end + 1) s)
  line-value start end m = rw add-one (ap (λ p. and_then p f) (sym e ∙ ap (parsed_value s) m))

-- the places of a value that was found lie within the bytes
pub value-within : (s : List ℕ) (r : Result (ℕ × ℕ) Refusal) (start end : ℕ) → ValueWithin s r → r ≡ Ok (start, end)
    → (start ≤ end) × (end < length s)
value-within s r start end w m = subst (ValueWithin s) m w
