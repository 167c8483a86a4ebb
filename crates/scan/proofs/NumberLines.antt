-- Laws of a number's line.
use Prim.Native.Nat.{ℕ, ◌≤◌}
use mathlib.Core.Path.{◌≡◌, refl}
use mathlib.Core.List.{List}
use native.Mathlib.Omega.{arith}
use Rattle.std.specs.Prelude.{Result, Ok, Err}
use Rattle.model.specs.declared.Refusal.{Refusal}
use Rattle.decimal.specs.Decimal.{reading_of}
use Rattle.decimal.specs.declared.NumberError.{NumberError}
use Rattle.decimal.specs.declared.NumberError.TheVariants.{NotNumber, OutOfRange as Beyond}
use Rattle.decimal.proofs.Readings.{reading-number}
use Rattle.scan.specs.inner.AtPlace.{value_read, number_value}
use Rattle.sheet.specs.Lines.{Parsed, read, refused, and_then, in_range, value_line, number_line}

-- a number that a line gives lies within its range
pub number-bounds : (key : List ℕ) (lo hi : ℕ) (s : List ℕ) (n : ℕ) (rest : List ℕ) → number_line key lo hi s ≡ read n rest
    → (lo ≤ n) × (n ≤ hi)
unfolding number_line
number-bounds key lo hi s n rest e = of-line (value_line key s) e
  where
    of-reading : (v end : List ℕ) (x : Result ℕ NumberError) → reading_of lo hi v ≡ x → in_range x end ≡ read n rest → reading_of lo hi v ≡ Ok n
    of-reading v end (Err NotNumber) f g = cc
    of-reading v end (Err Beyond) f g = cc
    of-reading v end (Ok m) f g = cc

    of-line : (p : Parsed (List ℕ)) → and_then p (λ v end. in_range (reading_of lo hi v) end) ≡ read n rest → (lo ≤ n) × (n ≤ hi)
    of-line (read v end) f = let b = reading-number lo hi v n (of-reading v end (reading_of lo hi v) refl f) in (b.1, b.2)
    of-line (refused r) f = let z : ◌≡◌ {A = ℕ} 0 1 = cc in omega arith

-- what the value of a line gives
pub number-value : (lo hi : ℕ) (v rest : List ℕ) (n : ℕ) → number_value lo hi v ≡ Ok n
    → in_range (reading_of lo hi v) rest ≡ read n rest
number-value lo hi v rest n = go (reading_of lo hi v)
  where
    go : (x : Result ℕ NumberError) → value_read x ≡ Ok n → in_range x rest ≡ read n rest
    go (Err NotNumber) e = cc
    go (Err Beyond) e = cc
    go (Ok m) e = cc

pub number-refusal : (lo hi : ℕ) (v rest : List ℕ) (why : Refusal) → number_value lo hi v ≡ Err why
    → in_range (reading_of lo hi v) rest ≡ refused why
number-refusal lo hi v rest why = go (reading_of lo hi v)
  where
    go : (x : Result ℕ NumberError) → value_read x ≡ Err why → in_range x rest ≡ refused why
    go (Err NotNumber) e = cc
    go (Err Beyond) e = cc
    go (Ok m) e = cc
