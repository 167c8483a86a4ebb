-- The rows of a listing as lines one after another, the figures of each beside its modtotal: one row more, how long they are, and that
-- below form 4 they do not depend on the modtotals.
use Prim.Native.Nat.{ℕ, zero, suc, ◌+◌, ◌*◌, ◌≤◌, ◌<◌}
use mathlib.Core.Path.{◌≡◌, refl, ap, ◌∙◌}
use mathlib.Core.Bool.{Bool, true, false}
use mathlib.Core.List.{List, [], ◌∷◌, ◌++◌, append_assoc}
use mathlib.Core.Option.{Option, none}
use native.Mathlib.Omega.{arith}
use lib.Dec.{leb}
use lib.ListN.{length, get_or, take, drop}
use lib.Seq.{get_or-drop}
use Rattle.model.specs.Rows.{zero_figures}
use Rattle.model.specs.declared.RowFigures.{RowFigures}
use Rattle.text.specs.Texts.{lines_text}
use Rattle.text.proofs.Runs.{each_of, lines-length, lines_next_lem, lines-room}
use Rattle.listing.specs.RowListing.{mod_listing, rows_listing, marked_text}

-- ---- the rows as a run of lines

-- the figures of each row and its modtotal
abbrev paired : List RowFigures → List ℕ → List (RowFigures × ℕ)
paired [] ms = []
paired (f ∷ fs) ms = (f, get_or ms 0 0) ∷ paired fs (drop 1 ms)

paired-length : (fs : List RowFigures) (ms : List ℕ) → length (paired fs ms) ≡ length fs
paired-length [] ms = refl
paired-length (f ∷ fs) ms = ap suc (paired-length fs (drop 1 ms))

paired-take : (n : ℕ) (fs : List RowFigures) (ms : List ℕ) → paired (take n fs) ms ≡ take n (paired fs ms)
paired-take zero fs ms = refl
paired-take (suc n) [] ms = refl
paired-take (suc n) (f ∷ fs) ms = rw (paired-take n fs (drop 1 ms))

paired_at : (fs : List RowFigures) (ms : List ℕ) (i : ℕ) → i < length fs
    → get_or (paired fs ms) i (zero_figures, 0) ≡ (get_or fs i zero_figures, get_or ms i 0)
paired_at [] ms i lt = absurd (omega arith)
paired_at (f ∷ fs) ms zero lt = refl
paired_at (f ∷ fs) ms (suc i) lt = paired_at fs (drop 1 ms) i (omega arith) ∙ ap (λ m. (get_or fs i zero_figures, m)) (next ms)
  where
    next : (ms : List ℕ) → get_or (drop 1 ms) i 0 ≡ get_or ms (suc i) 0
    next [] = refl
    next (m ∷ ms) = refl

module _ (form : ℕ) where
  -- the lines of one row
  abbrev pair_text : RowFigures × ℕ → List ℕ
  pair_text p = marked_text form p.0 p.1

  rows-lines : (fs : List RowFigures) (ms : List ℕ) → rows_listing (leb 4 form) fs ms ≡ lines_text pair_text (paired fs ms)
  unfolding rows_listing lines_text marked_text
  rows-lines [] ms = refl
  rows-lines (f ∷ fs) ms = rw (rows-lines fs (drop 1 ms), append_assoc)

  first-lines : (n : ℕ) (fs : List RowFigures) (ms : List ℕ)
      → rows_listing (leb 4 form) (take n fs) ms ≡ lines_text pair_text (take n (paired fs ms))
  first-lines n fs ms = rows-lines (take n fs) ms ∙ ap (lines_text pair_text) (paired-take n fs ms)

  -- rows of at most so many bytes each
  pub rows-most : (fs : List RowFigures) (ms : List ℕ) (most : ℕ)
      → ((i : ℕ) → i < length fs → length (marked_text form (get_or fs i zero_figures) (get_or ms i 0)) ≤ most)
      → length (rows_listing (leb 4 form) fs ms) ≤ length fs * most
  rows-most fs ms most each =
      rw (rows-lines fs ms, ← paired-length fs ms)
      (lines-length pair_text Fits 0 most (λ prev p fit. (omega arith, fit)) none (paired fs ms)
      (each_of Fits (zero_figures, 0) none (paired fs ms)
      (λ i lt. let here : i < length fs = omega (arith, paired-length fs ms) in rw (paired_at fs ms i here) (each i here)))
      ).1
    where
      Fits : Option (RowFigures × ℕ) → RowFigures × ℕ → Type 0
      Fits prev p = length (pair_text p) ≤ most

  -- ---- one row more

  module _ (fs : List RowFigures) (ms : List ℕ) (i : ℕ) (lt : i < length fs) where
    -- what it adds
    abbrev row_adds : List ℕ
    row_adds = marked_text form (get_or fs i zero_figures) (get_or ms i 0)

    here : i < length (paired fs ms)
    here = omega (arith, paired-length fs ms)

    pub rows_next : rows_listing (leb 4 form) (take (i + 1) fs) ms ≡ rows_listing (leb 4 form) (take i fs) ms ++ row_adds
    rows_next =
        first-lines (i + 1) fs ms
        ∙ lines_next_lem pair_text (paired fs ms) i (zero_figures, 0) here
        ∙ rw (paired_at fs ms i lt, first-lines i fs ms)

    -- the rows passed and one more are no longer than the first n
    pub rows-room : (n : ℕ) → i < n
        → length (rows_listing (leb 4 form) (take i fs) ms) + length row_adds ≤ length (rows_listing (leb 4 form) (take n fs) ms)
    rows-room n below =
        rw (first-lines i fs ms, first-lines n fs ms)
        (rw (paired_at fs ms i lt) at (lines-room pair_text (paired fs ms) i n (zero_figures, 0) below here))

-- ---- which modtotals are read

-- none without modtotal=, and with it those of the rows
pub rows_same : (marked : Bool) (fs : List RowFigures) (ms ns : List ℕ)
    → (marked ≡ true → (i : ℕ) → i < length fs → get_or ms i 0 ≡ get_or ns i 0) → rows_listing marked fs ms ≡ rows_listing marked fs ns
unfolding rows_listing mod_listing
rows_same marked [] ms ns same = refl
rows_same marked (f ∷ fs) ms ns same =
    rw (first marked same, rows_same marked fs (drop 1 ms) (drop 1 ns) later)
  where
    later : marked ≡ true → (i : ℕ) → i < length fs → get_or (drop 1 ms) i 0 ≡ get_or (drop 1 ns) i 0
    later y i lt = rw (get_or-drop 1 ms i 0, get_or-drop 1 ns i 0) (same y (1 + i) (omega arith))

    first : (b : Bool) → (b ≡ true → (i : ℕ) → i < suc (length fs) → get_or ms i 0 ≡ get_or ns i 0)
        → mod_listing b (get_or ms 0 0) ≡ mod_listing b (get_or ns 0 0)
    first true same = rw (same refl 0 (omega arith))
    first false same = refl
