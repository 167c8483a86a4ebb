-- The first of the lines of a run of bytes, read byte by byte: its label, its blank, its digits, its line feed.
use Prim.Native.Nat.{ℕ, suc, ◌+◌, ◌*◌, ◌-◌, ◌^◌, ◌≤◌, ◌<◌}
use mathlib.Core.Path.{◌≡◌, refl, sym, ap, ◌∙◌}
use mathlib.Core.Bool.{Bool, true, false, cond, ◌&&◌, false≢true, and-false}
use mathlib.Core.List.{List, [], ◌∷◌}
use native.Mathlib.Omega.{arith}
use native.Mathlib.Nat.{zero-add, pow-le-pow_right}
use native.Mathlib.Numerals.{add-one}
use borrow.Author.Tests.{lt-ltb, le-ltb, eq-eqb, ne_eqb, leb-true}
use lib.Dec.{eqb, leb}
use mathlib.Core.Option.{none, some}
use lib.ListN.{length, get_or, drop, drop_of_length-le}
use lib.Seq.{drop-cons, drop-drop}
use Rattle.text.specs.Keys.{line_feed}
use Rattle.scan.proofs.Tails.{tail, tail-is}
use Rattle.din.specs.Lines.{Lines, end, line, trace_lines, and_before, between, digit_of}
use Rattle.din.specs.Lines.{all_digits, value_from, is_label, blank, most_digits, address_of}
use Rattle.din.specs.inner.FirstLine.{malformed, address, with_address, first_of, first_after}
use Rattle.din.proofs.Digits.{within, above}

-- a byte that is no line feed stands in the first line
lines_other : (b : ℕ) (s : List ℕ) → (b ≡ line_feed → ⊥) → trace_lines (b ∷ s) ≡ and_before b (trace_lines s)
unfolding trace_lines
lines_other b s ne = rw (ne_eqb b line_feed ne) refl

-- ---- the digits

module _ (v n b : ℕ) where
  after-digit : (L : Lines) → digit_of b < 16 → first_after v n (and_before b L) ≡ first_after (v * 16 + digit_of b) (suc n) L
  unfolding first_after all_digits value_from
  after-digit (end s) lt = refl
  after-digit (line s more) lt =
      let e : n + suc (length s) ≡ suc n + length s = omega arith in
      rw (lt-ltb (digit_of b) 16 lt, e) refl

  after_none : (L : Lines) → 16 ≤ digit_of b → first_after v n (and_before b L) ≡ malformed
  unfolding first_after all_digits
  after_none (end s) le = refl
  after_none (line s more) le = rw (le-ltb (digit_of b) 16 le) refl

after_full : (v b : ℕ) (L : Lines) → first_after v most_digits (and_before b L) ≡ malformed
unfolding first_after
after_full v b (end s) = refl
after_full v b (line s more) =
    rw (above 1 most_digits (most_digits + suc (length s)) (omega arith) (omega arith), and-false (all_digits (b ∷ s))) refl

-- going along the digits of s, n of which of the value v were passed
pub record Along (s : List ℕ) (v n : ℕ) : Type 0 where
  pub few : n ≤ most_digits
  pub place : n ≤ length s
  pub small : v < 16 ^ n
  pub same : first_after 0 0 (trace_lines s) ≡ first_after v n (trace_lines (drop n s))

pub along-start : (s : List ℕ) → Along s 0 0
along-start s = record { few = omega arith; place = omega arith; small = omega arith; same = refl }

module _ (lo hi b : ℕ) (e : between lo hi b ≡ true) where
  pub between-true : (lo ≤ b) × (b ≤ hi)
  between-true = go (leb lo b) refl (leb b hi) refl e
    where
      go : (t : Bool) → leb lo b ≡ t → (u : Bool) → leb b hi ≡ u → (t && u) ≡ true → (lo ≤ b) × (b ≤ hi)
      go true p true q f = (leb-true lo b p, leb-true b hi q)
      go true p false q f = absurd (false≢true f)
      go false p u q f = absurd (false≢true f)

pub digit-le : (b : ℕ) → digit_of b ≤ 16
unfolding digit_of
digit-le b = go (between 48 57 b) refl (between 65 70 b) refl (between 97 102 b) refl
  where
    go : (t : Bool) → between 48 57 b ≡ t → (u : Bool) → between 65 70 b ≡ u → (w : Bool) → between 97 102 b ≡ w
        → cond t (b - 48) (cond u (b - 55) (cond w (b - 87) 16)) ≤ 16
    go true e u f w g = omega (arith, between-true 48 57 b e)
    go false e true f w g = omega (arith, between-true 65 70 b f)
    go false e false f true g = omega (arith, between-true 97 102 b g)
    go false e false f false g = omega arith

module _ (s : List ℕ) (v n : ℕ) (along : Along s v n) where
  -- the bytes end
  pub along-end : length s ≤ n → malformed ≡ first_after 0 0 (trace_lines s)
  unfolding trace_lines first_after
  along-end le = sym (along.same ∙ rw (drop_of_length-le s le) refl)

  module _ (lt : n < length s) where
    here : trace_lines (drop n s) ≡ trace_lines (get_or s n 0 ∷ drop (suc n) s)
    here = ap trace_lines (drop-cons s n 0 lt)

    -- a line feed
    module _ (feed : get_or s n 0 ≡ line_feed) where
      feed-line : trace_lines (drop n s) ≡ line [] (trace_lines (drop (suc n) s))
      unfolding trace_lines
      feed-line = here ∙ rw (eq-eqb (get_or s n 0) line_feed feed) refl

      pub along-empty : n ≡ 0 → malformed ≡ first_after 0 0 (trace_lines s)
      unfolding first_after all_digits
      along-empty e =
          let none : n + 0 ≡ 0 = omega arith in
          sym (along.same ∙ rw (feed-line, none) refl)

      pub along-feed : 1 ≤ n → address v (trace_lines (drop (n + 1) s)) ≡ first_after 0 0 (trace_lines s)
      unfolding first_after all_digits value_from
      along-feed more =
          let none : n + 0 ≡ n = omega arith in
          sym (along.same ∙ rw (feed-line, none, within 1 most_digits n more along.few, add-one n) refl)

    -- any other byte
    module _ (other : get_or s n 0 ≡ line_feed → ⊥) where
      other-line : trace_lines (drop n s) ≡ and_before (get_or s n 0) (trace_lines (drop (suc n) s))
      other-line = here ∙ lines_other (get_or s n 0) (drop (suc n) s) other

      pub along-full : n ≡ most_digits → malformed ≡ first_after 0 0 (trace_lines s)
      along-full e =
          sym
          (along.same
          ∙ ap (first_after v n) other-line
          ∙ rw e (after_full v (get_or s most_digits 0) (trace_lines (drop (suc most_digits) s))))

      pub along-none : 16 ≡ digit_of (get_or s n 0) → malformed ≡ first_after 0 0 (trace_lines s)
      along-none e =
          sym
          (along.same
          ∙ ap (first_after v n) other-line
          ∙ after_none v n (get_or s n 0) (trace_lines (drop (suc n) s)) (omega arith))

      module _ (room : (n ≡ most_digits) → ⊥) (d : ℕ) (is : d ≡ digit_of (get_or s n 0)) (digit : (d ≡ 16) → ⊥) where
        -- one digit more fits
        pub along-small : v * 16 + d < 16 ^ suc n
        along-small = omega (arith, along.small, digit-le (get_or s n 0))

        pub along-fits : v * 16 + d < 2 ^ 32
        along-fits =
            let more : suc n ≤ most_digits = omega (arith, along.few) in
            let most : 16 ^ suc n ≤ 16 ^ most_digits = pow-le-pow_right {n = 16} (omega arith) more in
            omega (arith, along-small)

        pub along-next : Along s (v * 16 + d) (n + 1)
        along-next =
            rw (add-one n)
            (record {
              few = omega (arith, along.few);
              place = omega arith;
              small = along-small;
              same =
                  along.same
                  ∙ ap (first_after v n) other-line
                  ∙ after-digit v n (get_or s n 0) (trace_lines (drop (suc n) s)) (omega (arith, digit-le (get_or s n 0)))
                  ∙ rw is refl;
            })

-- ---- the label and the blank

label-other : (b : ℕ) → is_label b ≡ true → b ≡ line_feed → ⊥
label-other b e f = omega (arith, between-true 48 50 b e)

not-label : (b : ℕ) (L : Lines) → is_label b ≡ false → first_of (and_before b L) ≡ malformed
unfolding first_of address_of
not-label b (end s) e = refl
not-label b (line [] more) e = refl
not-label b (line (c ∷ s) more) e = rw e refl

not-blank : (b c : ℕ) (L : Lines) → (c ≡ blank → ⊥) → first_of (and_before b (and_before c L)) ≡ malformed
unfolding first_of address_of
not-blank b c (end s) ne = refl
not-blank b c (line s more) ne = rw (ne_eqb c blank ne, and-false (is_label b)) refl

labelled : (b : ℕ) (L : Lines) → is_label b ≡ true → first_of (and_before b (and_before blank L)) ≡ first_after 0 0 L
unfolding first_of first_after address_of
labelled b (end s) e = refl
labelled b (line s more) e = rw (e, zero-add (length s)) (go (all_digits s && between 1 most_digits (length s)))
  where
    go : (t : Bool) → with_address (cond t (some (value_from 0 s)) none) more ≡ cond t (address (value_from 0 s) more) malformed
    go true = refl
    go false = refl

-- the line at the head of s: too short
pub line-short : (s : List ℕ) → 1 ≤ length s → length s < 2 → malformed ≡ first_of (trace_lines s)
unfolding trace_lines first_of address_of
line-short [] more few = absurd (omega arith)
line-short (b ∷ c ∷ s) more few = absurd (omega arith)
line-short (b ∷ []) more few = go (eqb b line_feed)
  where
    go : (t : Bool) → malformed ≡ first_of (cond t (line [] (end [])) (end (b ∷ [])))
    go true = refl
    go false = refl

-- without its label
pub line-unlabelled : (s : List ℕ) → 2 ≤ length s → is_label (get_or s 0 0) ≡ false → malformed ≡ first_of (trace_lines s)
unfolding trace_lines first_of address_of
line-unlabelled [] long e = absurd (omega arith)
line-unlabelled (b ∷ s) long e = go (eqb b line_feed)
  where
    go : (t : Bool) → malformed ≡ first_of (cond t (line [] (trace_lines s)) (and_before b (trace_lines s)))
    go true = refl
    go false = sym (not-label b (trace_lines s) e)

-- without its blank
pub line-unparted : (s : List ℕ) → 2 ≤ length s → is_label (get_or s 0 0) ≡ true → (get_or s 1 0 ≡ blank → ⊥)
    → malformed ≡ first_of (trace_lines s)
unfolding trace_lines first_of address_of
line-unparted [] long e ne = absurd (omega arith)
line-unparted (b ∷ []) long e ne = absurd (omega arith)
line-unparted (b ∷ c ∷ s) long e ne = go (eqb c line_feed) ∙ sym (ap first_of (lines_other b (c ∷ s) (label-other b e)))
  where
    go : (t : Bool) → malformed ≡ first_of (and_before b (cond t (line [] (trace_lines s)) (and_before c (trace_lines s))))
    go true = refl
    go false = sym (not-blank b c (trace_lines s) ne)

-- with both: the address behind them
pub line-address : (s : List ℕ) → 2 ≤ length s → is_label (get_or s 0 0) ≡ true → get_or s 1 0 ≡ blank
    → first_after 0 0 (trace_lines (tail s 2)) ≡ first_of (trace_lines s)
line-address [] long e is = absurd (omega arith)
line-address (b ∷ []) long e is = absurd (omega arith)
line-address (b ∷ c ∷ s) long e is =
    rw (tail-is (b ∷ c ∷ s) 2)
    (sym
    (ap first_of (lines_other b (c ∷ s) (label-other b e))
    ∙ ap (λ (L : Lines). first_of (and_before b L)) (lines_other c s (λ f. omega arith))
    ∙ rw is (labelled b (trace_lines s) e)))

-- found up to the place `next`
pub line-next : (s : List ℕ) → 2 ≤ length s → is_label (get_or s 0 0) ≡ true → get_or s 1 0 ≡ blank → (a next : ℕ)
    → address a (trace_lines (drop next (tail s 2))) ≡ first_after 0 0 (trace_lines (tail s 2))
    → address a (trace_lines (drop (next + 2) s)) ≡ first_of (trace_lines s)
line-next s long e is a next f =
    let sum : next + 2 ≡ 2 + next = omega arith in
    let rest : drop (next + 2) s ≡ drop next (tail s 2) = rw (sum, tail-is s 2) (sym (drop-drop next 2 s)) in
    rw rest (f ∙ line-address s long e is)
