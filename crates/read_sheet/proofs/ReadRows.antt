-- Laws of a row's two readings.
use Prim.Native.Nat.{ℕ, suc, ◌+◌, ◌≤◌, ◌<◌}
use mathlib.Core.Path.{◌≡◌, refl, sym}
use mathlib.Core.Bool.{Bool, true, false, cond, ◌&&◌}
use mathlib.Core.List.{List}
use mathlib.Core.Option.{Option}
use native.Mathlib.Numerals.{add-one}
use native.Mathlib.Omega.{arith}
use borrow.Author.Tests.{le-leb}
use lib.Dec.{leb}
use lib.ListN.{length, take, drop}
use Rattle.model.specs.Sheets.{largest_price}
use Rattle.model.specs.declared.PriceRow.{PriceRow}
use Rattle.model.specs.declared.Refusal.TheVariants.{ValueMalformed, OutOfRange}
use Rattle.decimal.specs.Decimal.{is_number, value, reading_of}
use Rattle.decimal.specs.declared.NumberError.{NumberError}
use Rattle.decimal.specs.declared.NumberError.TheVariants.{NotNumber, OutOfRange as Beyond}
use Rattle.std.specs.Prelude.{Result, Ok, Err, IfOk}
use Rattle.decimal.proofs.Readings.{reading-number}
use Rattle.text.specs.Keys.{slash}
use Rattle.sheet.specs.Lines.{refused, split_at}
use Rattle.sheet.specs.Values.{row_after, row_of, row_parts}
use Rattle.scan.specs.inner.AtPlace.{split_at_place}
use Rattle.read_sheet.specs.inner.RowsAtPlace.{row_of_readings}
use Rattle.scan.proofs.Splits.{place-within}
use Rattle.scan.proofs.Tails.{tail, tail-is}

-- the number of a reading does not exceed the bound
pub reading-bound : (lo hi : ℕ) (v : List ℕ) (x : Result ℕ NumberError) → x ≡ reading_of lo hi v → IfOk x (λ n. n ≤ hi)
reading-bound lo hi v (Err why) e = tt
reading-bound lo hi v (Ok n) e = (reading-number lo hi v n (sym e)).2

-- a row of two values is the row of their readings
pub row-readings : (prev : Option PriceRow) (x y rest : List ℕ)
    → row_of prev x y rest ≡ row_of_readings prev (reading_of 0 largest_price x) (reading_of 1 largest_price y) rest
row-readings prev x y rest =
    rw (le-leb 0 (value x) (omega arith))
    (cases (is_number x) (is_number y) (leb (value x) largest_price) (leb 1 (value y) && leb (value y) largest_price))
  where
    cases : (a b h d : Bool)
        → cond (a && b)
        (cond (h && d) (row_after prev (record { h = value x; d = value y }) rest) (refused OutOfRange)) (refused ValueMalformed)
        ≡ row_of_readings prev (cond a (cond h (Ok (value x)) (Err Beyond)) (Err NotNumber))
        (cond b (cond d (Ok (value y)) (Err Beyond)) (Err NotNumber)) rest
    cases false b h d = refl
    cases true false true d = refl
    cases true false false d = refl
    cases true true true true = refl
    cases true true true false = refl
    cases true true false true = refl
    cases true true false false = refl

-- the row of a value that the place k of its first "/" splits
pub row-value : (prev : Option PriceRow) (v rest : List ℕ) (k : ℕ) (x y : Result ℕ NumberError) → split_at slash v ≡ split_at_place v k
    → k < length v
    → x ≡ reading_of 0 largest_price (take k v) → y ≡ reading_of 1 largest_price (tail v (k + 1))
    → row_of_readings prev x y rest ≡ row_parts prev (split_at slash v) rest
row-value prev v rest k x y f h ex ey =
    rw (f, place-within v k h, row-readings prev (take k v) (drop (suc k) v) rest, ← (add-one k), ← (tail-is v (k + 1)), ← ex, ← ey)
