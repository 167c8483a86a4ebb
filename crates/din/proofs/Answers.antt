-- The sheet of an import by what its lines come to.
use Prim.Native.Nat.{ℕ, ◌≤◌}
use mathlib.Core.Path.{◌≡◌, refl, sym, ap, ◌∙◌}
use Rattle.std.specs.Prelude.{Result, Ok, Err}
use mathlib.Core.List.{List}
use native.Mathlib.Omega.{arith}
use lib.ListN.{replicate, length-replicate}
use Rattle.model.specs.Sheets.{SheetValue, most_segs, most_steps}
use Rattle.model.specs.Values.{zeros, blank_marks, padded, head_of, head_value_of, sheet_of, value_of}
use Rattle.model.specs.declared.Head.{Head}
use Rattle.model.specs.declared.PriceRow.{PriceRow}
use Rattle.model.specs.declared.Sheet.{Sheet}
use Rattle.model.specs.declared.Kind.TheVariants.{Time}
use Rattle.model.specs.declared.Refusal.{Refusal}
use Rattle.sheet.specs.Answers.{answer_of}
use Rattle.sheet.proofs.Held.{held}
use Rattle.din.specs.Pages.{Touched, touches, refused}
use Rattle.din.specs.Pages.{segment_count, touched_with}
use Rattle.din.specs.Import.{sheet_of_touched, imported}
use Rattle.din.specs.inner.Held.{imported_of}
use Rattle.din.specs.declared.pages.Imported.{Imported}
use Rattle.din.proofs.Results.{touched-within}

-- the answer with a sheet of form 1, kind time, a = 0, no warm segment and no marks
abbrev taken_with : ℕ → List ℕ → ℕ → List PriceRow → List ℕ → ℕ → List ℕ → Result Sheet Refusal
taken_with segs sizes rows prices holds steps seen =
    Ok
    (record {
      form = 1;
      head = record { kind = Time; a = 0; segs = segs; sizes = sizes; rows = rows; prices = prices; warm = 0; holds = holds };
      steps = steps;
      touches = seen;
      marked = 0;
      marks = blank_marks most_steps;
    })

same-sheet : {n n' : ℕ} → n ≡ n' → {z z' : List ℕ} → z ≡ z' → {r r' : ℕ} → r ≡ r' → {p p' : List PriceRow} → p ≡ p'
    → {w w' : List ℕ} → w ≡ w' → {t t' : ℕ} → t ≡ t' → {s s' : List ℕ} → s ≡ s'
    → taken_with n z r p w t s ≡ taken_with n' z' r' p' w' t' s'
same-sheet a b c d e f g = rw (a, b, c, d, e, f, g) refl

module _ (k : ℕ) (bytes : List ℕ) (result : Result Imported Refusal) (is : result ≡ imported_of (touched_with k bytes)) where
  -- the segments of a trace that is taken are those of a sheet
  pub import-few : (found : Imported) → result ≡ Ok found → found.segs ≤ most_segs
  unfolding imported_of
  import-few found taken = go (touched_with k bytes) refl is
    where
      go : (x : Touched) → touched_with k bytes ≡ x → result ≡ imported_of x → found.segs ≤ most_segs
      go (touches ps) e f = let count : found.segs ≡ segment_count ps = cc in omega (arith, touched-within k bytes ps e)
      go (refused r) e f = cc

  -- a refusal stands
  pub import-refused : (rows : List PriceRow) (why : Refusal) → result ≡ Err why → Err why ≡ answer_of (imported k bytes rows)
  unfolding imported_of imported answer_of
  import-refused rows why stands = go (touched_with k bytes) is
    where
      go : (x : Touched) → result ≡ imported_of x → ◌≡◌ {A = Result Sheet Refusal} (Err why) (answer_of (sheet_of_touched x rows))
      go (touches ps) f = cc
      go (refused r) f = cc

  -- the sheet of a trace that is taken, with the rows of a head that was read
  pub import-taken : (h : Head) → h ≡ head_of (head_value_of h) → (found : Imported) → result ≡ Ok found
      → (sizes : List ℕ) → sizes ≡ padded (replicate found.segs 1) (zeros most_segs)
      → taken_with found.segs sizes h.rows h.prices (zeros most_segs) found.steps found.touches
      ≡ answer_of (imported k bytes (head_value_of h).rows)
  unfolding imported_of imported answer_of sheet_of head_of padded
  import-taken h read found taken sizes ones = go (touched_with k bytes) is
    where
      go : (x : Touched) → result ≡ imported_of x
          → taken_with found.segs sizes h.rows h.prices (zeros most_segs) found.steps found.touches
          ≡ answer_of (sheet_of_touched x (head_value_of h).rows)
      go (touches ps) f =
          let count : found.segs ≡ segment_count ps = cc in
          same-sheet (count ∙ sym (length-replicate {A = ℕ} (segment_count ps) 1))
          (ones ∙ ap (λ (n : ℕ). padded (replicate n 1) (zeros most_segs)) count) (ap (λ (g : Head). g.rows) read)
          (ap (λ (g : Head). g.prices) read) refl (cc) (cc)
      go (refused r) f = cc

-- the head of an accepted sheet is one that was read, and its rows are those of the sheet's value
pub head_read : (v : SheetValue) → (sheet_of v).head ≡ head_of (head_value_of (sheet_of v).head)
unfolding sheet_of value_of
head_read v = ap (λ (w : SheetValue). head_of w.head) (sym (held v))

pub rows-read : (v : SheetValue) → (head_value_of (sheet_of v).head).rows ≡ v.head.rows
unfolding sheet_of value_of
rows-read v = ap (λ (w : SheetValue). w.head.rows) (held v)
