-- The text of a head in the parts in which it is written, and the lengths of the parts.
use Prim.Native.Nat.{ℕ, ◌+◌}
use mathlib.Core.Path.{◌≡◌}
use mathlib.Core.Bool.{true, false}
use mathlib.Core.List.{List, [], ◌++◌, append_assoc}
use borrow.Table.Steps.{cases}
use lib.Dec.{leb}
use lib.ListN.{length, length-append}
use Rattle.model.specs.Sheets.{HeadValue}
use Rattle.model.specs.declared.Kind.{Kind}
use Rattle.model.specs.declared.PriceRow.{PriceRow}
use Rattle.text.specs.Keys.{kind_key, a_key, segs_key, size_key, rows_key, warm_key, hold_key, kind_word}
use Rattle.text.specs.Texts.{line_text, number_text, lines_text}
use Rattle.sheet.specs.Order.{warm_for, head_part}
use Rattle.sheet.specs.Parts.{text_of}
use Rattle.sheet.proofs.PartTexts.{sizes-text, prices-text, warm-text, head-text}
use Rattle.write_sheet.specs.inner.Heads.{numbers_text, rows_text, counted_text, segments_text, priced_text, warm_text, head_text}

-- the lines from kind= to the sizes
pub segments-length : (kind : Kind) (a : ℕ) (sizes : List ℕ) → length (segments_text kind a sizes)
    ≡ length (line_text kind_key (kind_word kind)) + (length (number_text a_key a) + length (counted_text segs_key size_key sizes))
unfolding segments_text
segments-length kind a sizes = simp length-append

-- the lines of the rows, with their count
pub priced-length : (qs : List PriceRow)
    → length (priced_text qs) ≡ length (number_text rows_key (length qs)) + length (rows_text qs)
unfolding priced_text
priced-length qs = simp length-append

-- a head
pub head-length : (form : ℕ) (h : HeadValue) → length (head_text form h)
    ≡ length (segments_text h.kind h.a h.sizes) + (length (priced_text h.rows) + length (warm_text form h.warm))
unfolding head_text
head-length form h = simp length-append

-- by the form: with warm segments, or without
module _ (form : ℕ) where
  pub warm-later : (xs : List ℕ) → leb 3 form ≡ true → warm_text form xs ≡ counted_text warm_key hold_key xs
  unfolding warm_text
  warm-later xs e = rw e

  pub warm-first : (xs : List ℕ) → leb 3 form ≡ false → warm_text form xs ≡ []
  unfolding warm_text
  warm-first xs e = rw e

-- the warm segments
warm : (form segs : ℕ) (xs : List ℕ) → text_of ((warm_for (leb 3 form) segs).lines xs) ≡ warm_text form xs
unfolding warm_text lines_text
warm form segs xs = cases (leb 3 form) (λ e. rw e (warm-text segs xs)) (λ e. rw e)

-- texts in the parts of a head and in those that are written
joined : (a b c d e : List ℕ) → a ++ (b ++ ((c ++ d) ++ e)) ≡ (a ++ (b ++ (c ++ d))) ++ e
joined a b c d e = simp append_assoc

-- the head
pub heads : (form : ℕ) (h : HeadValue) → text_of ((head_part true (leb 3 form)).lines h) ≡ head_text form h
unfolding head_text segments_text priced_text
heads form h =
    rw (head-text true (leb 3 form) h, sizes-text h.sizes, prices-text h.rows, warm form (length h.sizes) h.warm)
    (joined
    (line_text kind_key (kind_word h.kind))
    (number_text a_key h.a)
    (number_text segs_key (length h.sizes))
    (numbers_text size_key h.sizes)
    ((number_text rows_key (length h.rows) ++ rows_text h.rows) ++ warm_text form h.warm))
