-- Lines one after another, one for each element of a list: reading them back. The lines of numbers, of rows and of warm segments
-- are such runs.
use Prim.Native.Nat.{ℕ, zero, suc}
use mathlib.Core.Path.{◌≡◌, refl, ap, ◌∙◌}
use mathlib.Core.List.{List, [], ◌∷◌, ◌++◌, append_assoc}
use mathlib.Core.Option.{Option, some}
use lib.ListN.{length}
use Rattle.model.specs.declared.PriceRow.{PriceRow}
use Rattle.sheet.specs.Lines.{Parsed, read, and_then, number_line, number_lines}
use Rattle.sheet.specs.Values.{row_line, row_lines}
use Rattle.sheet.specs.Warm.{hold_line, hold_lines}
use Rattle.sheet.proofs.Parsing.{then-read, Reads}
use Rattle.text.specs.Texts.{lines_text}
use Rattle.text.proofs.Runs.{Each}

-- n lines, each read after the value of the one before
unfoldable pub lines : {A : Type 0} → (Option A → List ℕ → Parsed A) → ℕ → Option A → List ℕ → Parsed (List A)
lines p zero prev s = read [] s
lines p (suc n) prev s = and_then (p prev s) (λ x rest. and_then (lines p n (some x) rest) (λ xs end. read (x ∷ xs) end))

module _ {A : Type 0} (p : Option A → List ℕ → Parsed A) (text : A → List ℕ) (F : Option A → A → Type 0) where
  -- the lines of elements that fit are read back
  forth : ((prev : Option A) → Reads (p prev) text (F prev)) → (xs : List A) (prev : Option A) (rest : List ℕ)
      → Each F prev xs → lines p (length xs) prev (lines_text text xs ++ rest) ≡ read xs rest
  unfolding lines lines_text
  forth r [] prev rest h = refl
  forth r (x ∷ xs) prev rest h = rw (append_assoc, (r prev).forth x (lines_text text xs ++ rest) h.0, forth r xs (some x) rest h.1)

  -- what is read from n lines are n elements that fit, and the bytes were their lines
  back : ((prev : Option A) → Reads (p prev) text (F prev)) → (n : ℕ) (prev : Option A) (s : List ℕ) (xs : List A) (rest : List ℕ)
      → lines p n prev s ≡ read xs rest → (s ≡ lines_text text xs ++ rest) × (length xs ≡ n) × Each F prev xs
  unfolding lines lines_text
  back r zero prev s xs rest e =
      let q : xs ≡ [] = cc in
      rw q ((cc), refl, tt)
  back r (suc n) prev s xs rest e =
      then-read (p prev s) _ xs rest e λ x mid e₁ e₂.
      then-read (lines p n (some x) mid) _ xs rest e₂ λ ys end e₃ e₄.
      let (t, f) = (r prev).back s x mid e₁ in
      let (u, l, g) = back r n (some x) mid ys end e₃ in
      let q : xs ≡ x ∷ ys = cc in
      let m : end ≡ rest = cc in
      rw (q, append_assoc) (t ∙ rw (u, m), ap suc l, (f, g))

  -- a run of lines is read so
  pub lines-reads : ((prev : Option A) → Reads (p prev) text (F prev)) → (n : ℕ) (prev : Option A)
      → Reads (lines p n prev) (lines_text text) (λ xs. (length xs ≡ n) × Each F prev xs)
  lines-reads r n prev =
      record {
        forth = λ xs rest h. rw (← h.0) (forth r xs prev rest h.1);
        back = λ s xs rest e. let (t, l, g) = back r n prev s xs rest e in (t, (l, g));
      }

-- ---- the lines of numbers, of rows and of warm segments

-- n lines of numbers are such a run, whatever stands before them
pub number-lines : (key : List ℕ) (lo hi n : ℕ) (prev : Option ℕ) (s : List ℕ)
    → number_lines key lo hi n s ≡ lines (λ _. number_line key lo hi) n prev s
unfolding number_lines lines
number-lines key lo hi zero prev s = refl
number-lines key lo hi (suc n) prev s = simp (← number-lines key lo hi n)

-- so are n lines of rows
pub row-lines : (n : ℕ) (prev : Option PriceRow) (s : List ℕ) → row_lines n prev s ≡ lines row_line n prev s
unfolding row_lines lines
row-lines zero prev s = refl
row-lines (suc n) prev s = simp (row-lines n)

-- and n lines of warm segments
pub hold-lines : (segs n : ℕ) (prev : Option ℕ) (s : List ℕ) → hold_lines segs n prev s ≡ lines (hold_line segs) n prev s
unfolding hold_lines lines
hold-lines segs zero prev s = refl
hold-lines segs (suc n) prev s = simp (hold-lines segs n)
