-- Which number the sizes and the warm segments of a sheet get: 26, then 27.
use Prim.Native.Nat.{ℕ}
use mathlib.Core.Path.{◌≡◌, refl}
use mathlib.Core.List.{List, [], ◌∷◌}
use Rattle.model.specs.Refusals.{verdict_number}
use Rattle.replacement.specs.Answers.{all_ones, ones_verdict}

number : List ℕ → ℕ → ℕ
number sizes warm = verdict_number (ones_verdict sizes warm)

-- a size that is not 1, the first or the last; a warm segment; both: 26 before 27
numbers : number (1 ∷ 1 ∷ []) 0 ∷ number (2 ∷ 1 ∷ []) 0 ∷ number (1 ∷ 2 ∷ []) 0 ∷ number (1 ∷ 1 ∷ []) 1 ∷ number (1 ∷ 2 ∷ []) 1 ∷ []
    ≡ 0 ∷ 26 ∷ 26 ∷ 27 ∷ 26 ∷ []
unfolding number all_ones ones_verdict
numbers = refl
