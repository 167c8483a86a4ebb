-- A list that is given after a verdict: the verdict accepts, and the list is that one.
use Rattle.std.specs.Prelude.{Result, Ok, Err}
use Rattle.model.specs.declared.Refusal.{Refusal}
use Prim.Native.Nat.{ℕ}
use mathlib.Core.Path.{◌≡◌, refl, sym, ap}
use mathlib.Core.List.{List, []}
use native.Mathlib.Omega.{arith}
use Rattle.replacement.specs.Answers.{list_after}

-- what a result gives, and whether it does
abbrev given : Result (List ℕ) Refusal → List ℕ
given (Ok list) = list
given (Err why) = []

abbrev gave : Result (List ℕ) Refusal → ℕ
gave (Ok list) = 1
gave (Err why) = 0

pub given-after : (w : Result (Unit {0}) Refusal) (l list : List ℕ) → list_after w l ≡ Ok list → (w ≡ (Ok tt)) × (list ≡ l)
given-after (Ok tt) l list e = (refl, sym (ap given e))
given-after (Err why) l list e = let z : ◌≡◌ {A = ℕ} (gave (Err why)) (gave (Ok list)) = ap gave e in absurd (omega arith)
