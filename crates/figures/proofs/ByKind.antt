-- A number chosen by the kind.
use Prim.Native.Nat.{ℕ, ◌≤◌}
use Rattle.model.specs.declared.Kind.{Kind}
use Rattle.model.specs.declared.Kind.TheVariants.{Time, Space}
use Rattle.figures.specs.inner.OneRow.{by_kind}

-- a number chosen by the kind is within a bound of both
pub by_kind-within : (kind : Kind) (x y m : ℕ) → x ≤ m → y ≤ m → by_kind kind x y ≤ m
by_kind-within Time x y m p q = p
by_kind-within Space x y m p q = q
