-- Which number a sheet's head gets: 28, then 26, then 27.
use Prim.Native.Nat.{ℕ}
use mathlib.Core.Path.{◌≡◌, refl}
use mathlib.Core.List.{List, [], ◌∷◌}
use Rattle.model.specs.Refusals.{verdict_number}
use Rattle.model.specs.declared.Kind.{Kind}
use Rattle.model.specs.declared.Kind.TheVariants.{Time, Space}
use Rattle.replacement.specs.Answers.{all_ones, ones_verdict}
use Rattle.windows.specs.Answers.{time_zero, windows_verdict}

number : Kind → ℕ → List ℕ → List ℕ → ℕ
number kind a sizes warm = verdict_number (windows_verdict (record { kind = kind; a = a; sizes = sizes; rows = []; warm = warm }))

-- kind space; a of 1; both with a size of 2 and a warm segment: 28 first; then 26 before 27
numbers : number Time 0 (1 ∷ []) []
    ∷ number Space 0 (1 ∷ []) []
    ∷ number Time 1 (1 ∷ []) []
    ∷ number Space 0 (2 ∷ []) (0 ∷ [])
    ∷ number Time 1 (2 ∷ []) (0 ∷ [])
    ∷ number Time 0 (2 ∷ []) (0 ∷ [])
    ∷ number Time 0 (1 ∷ []) (0 ∷ [])
    ∷ []
    ≡ 0 ∷ 28 ∷ 28 ∷ 28 ∷ 28 ∷ 26 ∷ 27 ∷ []
unfolding number all_ones ones_verdict time_zero
numbers = refl
