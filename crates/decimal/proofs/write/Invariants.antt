-- `decimal::write` meets its contract. The loop's invariant: `out` is as it is to be once the digits of `rest` are written, and these are
-- `left`.
use mathlib.Core.Path.{◌≡◌}
use mathlib.Core.List.{List, ◌++◌}
use Prim.Native.Nat.{ℕ, ◌+◌}
use lib.ListN.{length, take, drop}
use Rattle.decimal.specs.Decimal.{written}
use Rattle.decimal.proofs.Padded.{Filling}
use Rattle.decimal.proofs.write.Given as goal

pub record Writing (n at : ℕ) (out₀ out : List ℕ) (rest left : ℕ) : Type 0 where
  pub whole : length out ≡ length out₀
  pub filling : Filling at (take at out₀ ++ (written n ++ drop (at + length (written n)) out₀)) out rest left
  pub left_is : left ≡ length (written rest)

abbrev pub invariant-loop-rest : goal.invariant-loop-rest
invariant-loop-rest l = Writing l.n l.at l.initial.out l.out l.rest l.left

abbrev pub decreases-loop-rest : goal.decreases-loop-rest
decreases-loop-rest l = l.rest
