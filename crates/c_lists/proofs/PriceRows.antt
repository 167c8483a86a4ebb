-- Rows and their prices apart: the rows of such prices, and the prices stored row by row.
use Prim.Native.Nat.{ℕ, zero, suc, ◌<◌}
use mathlib.Core.Path.{◌≡◌, refl, sym, ap, ◌∙◌}
use mathlib.Core.List.{List, [], ◌∷◌, map}
use native.Mathlib.Omega.{arith}
use lib.ListN.{length, get_or, length-map}
use lib.Seq.{ext_get_or}
use Rattle.std.proofs.lemmas.List.{get_or-map}
use Rattle.model.specs.declared.PriceRow.{PriceRow}
use Rattle.c_lists.specs.Tables.{rows_of}
use Rattle.model.specs.Sheets.{row_in}

pub length-rows_of : (hs ds : List ℕ) → length hs ≡ length ds → length (rows_of hs ds) ≡ length hs
unfolding rows_of
length-rows_of [] ds e = refl
length-rows_of (h ∷ hs) [] e = absurd (omega arith)
length-rows_of (h ∷ hs) (d ∷ ds) e = ap suc (length-rows_of hs ds (omega arith))

pub get_or-rows_of : (hs ds : List ℕ) → length hs ≡ length ds → (k : ℕ)
    → row_in (rows_of hs ds) k ≡ record { h = get_or hs k 0; d = get_or ds k 0 }
unfolding rows_of
get_or-rows_of [] [] e k = refl
get_or-rows_of [] (d ∷ ds) e k = absurd (omega arith)
get_or-rows_of (h ∷ hs) [] e k = absurd (omega arith)
get_or-rows_of (h ∷ hs) (d ∷ ds) e zero = refl
get_or-rows_of (h ∷ hs) (d ∷ ds) e (suc k) = get_or-rows_of hs ds (omega arith) k

-- a list with f of each of 64 rows
pub mapped-is : (f : PriceRow → ℕ) (rows : List PriceRow) (l : List ℕ) → length rows ≡ 64 → length l ≡ 64
    → ((i : ℕ) → i < 64 → get_or l i 0 ≡ f (row_in rows i)) → l ≡ map f rows
mapped-is f rows l many long each =
    ext_get_or 0 l (map f rows) (omega (arith, length-map rows f))
    (λ i lt. each i (omega arith) ∙ sym (at i (omega arith)))
  where
    at : (i : ℕ) → i < length rows → get_or (map f rows) i 0 ≡ f (row_in rows i)
    at i lt = get_or-map f rows i (record { h = 0; d = 0 }) 0 lt
