-- What the code of the heads rests on: kinds and rows compared, then heads.
use mathlib.Core.Path.{◌≡◌, refl}
use mathlib.Core.Bool.{Bool, true, false}
use mathlib.Core.List.{List, [], ◌∷◌}
use borrow.Author.Tests.{eq-eqb, ne_eqb}
use denote.Enum.Bare.{sameb}
use lib.ListN.{take}
use lib.Pointwise.{pointwise}
use Rattle.model.specs.Values.{head_value_of}
use Rattle.model.specs.contracts.Kind.{the_type as kind}
use Rattle.model.specs.contracts.PriceRowPartialEq.TheImpl.{eq-value as alike}
use Rattle.model.specs.declared.Head.{Head}
use Rattle.model.specs.declared.Kind.{Kind}
use Rattle.model.specs.declared.Kind.TheVariants.{Time, Space}
use Rattle.model.specs.declared.PriceRow.{PriceRow}
use Rattle.joint.specs.Joint.{same_kind, same_rows, same_heads}

-- ---- kinds and rows, as a comparison of them tells it

pub kinds-alike : (p q : Kind) → sameb kind p q ≡ same_kind p q
kinds-alike Time Time = refl
kinds-alike Time Space = refl
kinds-alike Space Time = refl
kinds-alike Space Space = refl

pub rows-alike : (ps qs : List PriceRow) → pointwise alike.it ps qs ≡ same_rows ps qs
unfolding same_rows
rows-alike [] [] = refl
rows-alike [] (q ∷ qs) = refl
rows-alike (p ∷ ps) [] = refl
rows-alike (p ∷ ps) (q ∷ qs) = rw (rows-alike ps qs) refl

-- ---- heads

-- two heads, of which b tells whether the kinds are the same: they differ where the kinds or a differ, else as their rows do
module _ (p q : Head) (b : Bool) (told : b ≡ same_kind p.kind q.kind) where
  pub heads-kind : b ≡ false → false ≡ same_heads (head_value_of p) (head_value_of q)
  unfolding same_heads head_value_of
  heads-kind e = rw (← told, e)

  pub heads-a : b ≡ true → (p.a ≡ q.a → ⊥) → false ≡ same_heads (head_value_of p) (head_value_of q)
  unfolding same_heads head_value_of
  heads-a e other = rw (← told, e, ne_eqb p.a q.a other)

  pub heads-rows : b ≡ true → p.a ≡ q.a → (r : Bool) → r ≡ same_rows (take p.rows p.prices) (take q.rows q.prices)
      → r ≡ same_heads (head_value_of p) (head_value_of q)
  unfolding same_heads head_value_of
  heads-rows e same r is = rw (← told, e, eq-eqb p.a q.a same) is
