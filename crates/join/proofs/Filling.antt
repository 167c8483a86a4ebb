-- A list put entry by entry at the front of blank ones, as the loops that fill an array do.
use Prim.Native.Nat.{ℕ, ◌+◌, ◌≤◌, ◌<◌}
use mathlib.Core.Path.{◌≡◌}
use mathlib.Core.List.{List}
use native.Mathlib.Omega.{arith}
use native.Mathlib.Numerals.{add-one}
use lib.ListN.{length, get_or, take, set}
use lib.Seq.{length-take-le, take-suc, take_all}
use Rattle.model.specs.Values.{padded}
use Rattle.model.proofs.Values.{padded-next}

module _ {A : Type 0} (xs blank : List A) where
  -- none yet
  pub filling-none : (ys : List A) → ys ≡ blank → ys ≡ padded (take 0 xs) blank
  unfolding padded
  filling-none ys e = e

  -- one more
  pub filling-next : (ys : List A) (k : ℕ) (d x : A) → ys ≡ padded (take k xs) blank → k < length xs → length xs ≤ length blank
      → x ≡ get_or xs k d → set ys k x ≡ padded (take (k + 1) xs) blank
  filling-next ys k d x e lt le is =
      let at : length (take k xs) ≡ k = length-take-le k xs (omega arith) in
      rw (e, is, add-one k, take-suc xs k d lt) (rw at at (padded-next (take k xs) blank (get_or xs k d) (omega (arith, at))))

  -- all
  pub filling-all : (ys : List A) (k : ℕ) → ys ≡ padded (take k xs) blank → length xs ≤ k → ys ≡ padded xs blank
  filling-all ys k e le = rw (take_all k xs le) at e
