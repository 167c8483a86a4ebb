-- Laws of lists at the front of blank elements, as a sheet holds them.
use Prim.Native.Nat.{ℕ, ◌≤◌, ◌<◌}
use mathlib.Core.Path.{◌≡◌, ap, ◌∙◌}
use mathlib.Core.List.{List, ◌++◌, append-nil}
use native.Mathlib.Omega.{arith}
use lib.ListN.{length, take, drop, set, length-append, length-set, length-drop, take-append-drop, drop_of_length-le}
use lib.Seq.{length-take-le, take_at, drop_at, drop-set-lt}
use Rattle.model.specs.Values.{padded}
use Rattle.scan.specs.inner.AtPlace.{Filled}

module _ {A : Type 0} (n : ℕ) (xs blank : List A) (f : Filled n xs blank) where
  -- the values are n
  pub filled-length : length (take n xs) ≡ n
  filled-length = length-take-le n xs (omega (arith, f.within, f.whole))

  -- and the list is they at the front of the blank one
  pub filled-padded : padded (take n xs) blank ≡ xs
  unfolding padded
  filled-padded = rw (filled-length, ← f.behind) (take-append-drop n xs)

-- a blank list
pub filled_start : {A : Type 0} (n : ℕ) (xs blank : List A) → n ≤ length blank → xs ≡ blank → Filled n xs blank
filled_start n xs blank h e = record { within = h; whole = ap length e; behind = ap (drop n) e }

-- a value stored among the first n
pub filled-set : {A : Type 0} (n : ℕ) (xs blank : List A) (i : ℕ) (x : A) → i < n → Filled n xs blank → Filled n (set xs i x) blank
filled-set n xs blank i x h f =
    record { within = f.within; whole = length-set xs i x ∙ f.whole; behind = drop-set-lt n xs i x h ∙ f.behind }

-- values put at the front of a blank list b
module _ {A : Type 0} (n : ℕ) (xs b blank : List A) (e : length xs ≡ n) where
  pub front-filled : n ≤ length blank → b ≡ blank → Filled n (xs ++ drop n b) blank
  front-filled h i =
      record {
        within = h;
        whole = rw i (length-append xs (drop n blank) ∙ omega (arith, length-drop n blank));
        behind = drop_at xs (drop n b) n e ∙ ap (drop n) i;
      }

  pub front-take : take n (xs ++ drop n b) ≡ xs
  front-take = take_at xs (drop n b) n e

-- a blank list b lent whole, which came back as xs
module _ {A : Type 0} (most : ℕ) (xs b : List A) (h : length b ≤ most) where
  pub lent_back : xs ++ drop most b ≡ xs
  lent_back = rw (drop_of_length-le b h) (append-nil xs)
