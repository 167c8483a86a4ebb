-- How the value of each line is read and written: a number, a kind, a row, and a warm segment.
use Prim.Native.Nat.{ℕ, ◌-◌, ◌≤◌}
use mathlib.Core.Path.{◌≡◌, refl, sym, ◌∙◌}
use mathlib.Core.Bool.{true, false, ◌&&◌}
use mathlib.Core.List.{List, [], ◌∷◌}
use mathlib.Core.Option.{Option}
use borrow.Author.Tests.{eqb-true}
use lib.Dec.{eqb}
use Rattle.std.specs.Prelude.{Result, Ok, Err}
use Rattle.decimal.specs.Decimal.{is_digit, is_number, value, written, reading_of}
use Rattle.decimal.specs.declared.NumberError.{NumberError}
use Rattle.decimal.specs.declared.NumberError.TheVariants.{NotNumber, OutOfRange as Beyond}
use Rattle.decimal.proofs.Digits.{both}
use Rattle.decimal.proofs.Written.{written-digits, written-number, written-value, written_of}
use Rattle.decimal.proofs.Readings.{reading-written, reading-number}
use Rattle.model.specs.declared.Kind.{Kind}
use Rattle.model.specs.declared.Kind.TheVariants.{Time, Space}
use Rattle.model.specs.declared.PriceRow.{PriceRow}
use Rattle.text.specs.Keys.{line_feed, slash, kind_key, row_key, hold_key, kind_word}
use Rattle.sheet.specs.Lines.{read, Split, parts, none as unsplit, split_at, same_bytes, in_range, number_line}
use Rattle.sheet.specs.Values.{kind_of, kind_line, above, in_prices, row_of, row_parts, row_line, row_word, row_text}
use Rattle.sheet.specs.Warm.{above_hold, hold_after, hold_line}
use Rattle.text.specs.Texts.{line_text, number_text}
use Rattle.sheet.proofs.Parsing.{by-test, refused-read, passed, then-read, lacks, lacks-append, lacks-digits, split-forth}
use Rattle.sheet.proofs.Parsing.{split-back, Reads, Words, line_reads}

-- ---- a number

-- the digits of a number lack each byte that is no digit
pub written-lacks : (c n : ℕ) → is_digit c ≡ false → lacks c (written n) ≡ true
written-lacks c n h = lacks-digits c (written n) h (written-digits n)

-- how the value of a number line is read
number-words : (lo hi : ℕ) → Words (λ v rest. in_range (reading_of lo hi v) rest) written (λ n. (lo ≤ n) × (n ≤ hi))
number-words lo hi =
    record {
      plain = λ n. written-lacks line_feed n refl;
      forth = λ n rest h. rw (reading-written lo hi n h.0 h.1);
      back = λ v rest n end e.
          let (r, m) = number_read (reading_of lo hi v) rest n end e in
          let (w, l, u) = reading-number lo hi v n r in
          (w, m, (l, u));
    }
  where
    number_read : (r : Result ℕ NumberError) (rest : List ℕ) (n : ℕ) (end : List ℕ) → in_range r rest ≡ read n end → (r ≡ Ok n) × (rest ≡ end)
    number_read (Err NotNumber) rest n end e = absurd (refused-read e)
    number_read (Err Beyond) rest n end e = absurd (refused-read e)
    number_read (Ok m) rest n end e = ((cc), (cc))

-- so is the line, where the key has no line feed
pub number-reads : (key : List ℕ) (lo hi : ℕ) → lacks line_feed key ≡ true
    → Reads (number_line key lo hi) (number_text key) (λ n. (lo ≤ n) × (n ≤ hi))
unfolding number_line
number-reads key lo hi k = line_reads key _ written (λ n. (lo ≤ n) × (n ≤ hi)) k (number-words lo hi)

-- ---- a kind

-- what is the same is equal
pub same-equal : (x y : List ℕ) → same_bytes x y ≡ true → x ≡ y
unfolding same_bytes
same-equal [] [] e = refl
same-equal [] (b ∷ y) e = cc
same-equal (a ∷ x) [] e = cc
same-equal (a ∷ x) (b ∷ y) e =
    by-test (eqb a b) (same_bytes x y) false true e (λ h f. rw (eqb-true a b h, same-equal x y f)) (λ h f. cc)

-- how the value of the line kind= is read
kind-words : Words kind_of kind_word (λ k. Unit {0})
unfolding same_bytes
kind-words = record { plain = plain; forth = forth; back = back }
  where
    plain : (k : Kind) → lacks line_feed (kind_word k) ≡ true
    plain Time = refl
    plain Space = refl

    forth : (k : Kind) (rest : List ℕ) → Unit {0} → kind_of (kind_word k) rest ≡ read k rest
    forth Time rest u = refl
    forth Space rest u = refl

    back : (v rest : List ℕ) (k : Kind) (end : List ℕ) → kind_of v rest ≡ read k end → (v ≡ kind_word k) × (rest ≡ end) × Unit {0}
    back v rest k end e =
        by-test (same_bytes v (kind_word Time)) _ _ (read k end) e
        (λ h f. let r : Time ≡ k = cc in rw (← r) (same-equal v (kind_word Time) h, (cc), tt))
        (λ _ g.
        let (h, f) = passed (same_bytes v (kind_word Space)) _ _ k end g in
        let r : Space ≡ k = cc in
        rw (← r) (same-equal v (kind_word Space) h, (cc), tt))

-- so is the line
pub kind-reads : Reads kind_line (λ k. line_text kind_key (kind_word k)) (λ k. Unit {0})
unfolding kind_line
kind-reads = line_reads kind_key kind_of kind_word (λ k. Unit {0}) refl kind-words

-- ---- a row

-- a row's prices lie within their ranges, and its threshold exceeds the one before
abbrev pub RowFits : Option PriceRow → PriceRow → Type 0
RowFits prev q = (in_prices q.h q.d ≡ true) × (above prev q ≡ true)

module _ (prev : Option PriceRow) where
  -- the tests that lead to a row
  row-tests : (x y rest : List ℕ) (q : PriceRow) (end : List ℕ) → row_of prev x y rest ≡ read q end
      → (x ≡ written q.h) × (y ≡ written q.d) × (rest ≡ end) × RowFits prev q
  row-tests x y rest q end e =
      let (n, f) = passed (is_number x && is_number y) _ _ q end e in
      let (p, g) = passed (in_prices (value x) (value y)) _ _ q end f in
      let (a, k) = passed (above prev (record { h = value x; d = value y })) _ _ q end g in
      let (i, j) = both (is_number x) (is_number y) n in
      let r : record { h = value x; d = value y } ≡ q = cc in
      rw (← r) (sym (written_of x i), sym (written_of y j), (cc), (p, a))

  -- how the value of a line row= is read
  row_words : Words (λ v rest. row_parts prev (split_at slash v) rest) row_word (RowFits prev)
  row_words =
      record {
        plain = λ q.
            lacks-append line_feed (written q.h) (slash ∷ written q.d)
            (written-lacks line_feed q.h refl)
            (written-lacks line_feed q.d refl);
        forth = λ q rest f.
            rw (
              split-forth slash (written q.h) (written q.d) (written-lacks slash q.h refl),
              written-number q.h,
              written-number q.d,
              written-value q.h,
              written-value q.d,
              f.0,
              f.1,
            );
        back = λ v rest q end e. go (split_at slash v) refl rest q end e;
      }
    where
      go : {v : List ℕ} (p : Split) → split_at slash v ≡ p → (rest : List ℕ) (q : PriceRow) (end : List ℕ)
          → row_parts prev p rest ≡ read q end → (v ≡ row_word q) × (rest ≡ end) × RowFits prev q
      go {v} (parts x y) s rest q end e =
          let (i, j, m, f) = row-tests x y rest q end e in
          (split-back slash v x y s ∙ rw (i, j), m, f)
      go unsplit s rest q end e = absurd (refused-read e)

  -- so is the line
  pub row_reads : Reads (row_line prev) row_text (RowFits prev)
  unfolding row_line
  row_reads = line_reads row_key _ row_word (RowFits prev) refl row_words

-- ---- a warm segment

-- a warm segment is below segs, and above the one before
abbrev pub HoldFits : ℕ → Option ℕ → ℕ → Type 0
HoldFits segs prev x = ((0 ≤ x) × (x ≤ segs - 1)) × (above_hold prev x ≡ true)

-- so is the line hold= read
pub hold-reads : (segs : ℕ) (prev : Option ℕ) → Reads (hold_line segs prev) (number_text hold_key) (HoldFits segs prev)
unfolding hold_line
hold-reads segs prev =
    let r = number-reads hold_key 0 (segs - 1) refl in
    record {
      forth = λ x rest h. rw (r.forth x rest h.0, h.1);
      back = λ s x rest e.
          then-read (number_line hold_key 0 (segs - 1) s) (hold_after prev) x rest e λ y mid e₁ e₂.
          let (a, f) = passed (above_hold prev y) _ _ x rest e₂ in
          let q : y ≡ x = cc in
          let m : mid ≡ rest = cc in
          let (t, h) = r.back s y mid e₁ in
          rw (← q, ← m) (t, (h, a));
    }
