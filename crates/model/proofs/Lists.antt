-- Laws of lists that the standard ones lack.
use Prim.Native.Nat.{ℕ, zero, suc, ◌<◌}
use mathlib.Core.Path.{◌≡◌, refl}
use mathlib.Core.List.{List, [], ◌∷◌}
use native.Mathlib.Omega.{arith}
use lib.ListN.{length, get_or}

-- within a list it is of no account what stands beyond it
pub get_or-any : {A : Type 0} (l : List A) (i : ℕ) (d e : A) → i < length l → get_or l i d ≡ get_or l i e
get_or-any [] i d e lt = absurd (omega arith)
get_or-any (x ∷ l) zero d e lt = refl
get_or-any (x ∷ l) (suc i) d e lt = get_or-any l i d e (omega arith)
