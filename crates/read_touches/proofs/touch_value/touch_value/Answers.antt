-- `read_touches::touch_value::touch_value` meets its contract: the two sides of the first "@" are read as segment and step.
use mathlib.Core.Path.{refl, ◌∙◌}
use native.Mathlib.Omega.{arith}
use Rattle.read_touches.proofs.TouchValues.{pair_within, pair-none, reading-bound, touch-value}
use Rattle.read_touches.proofs.touch_value.touch_value.Goals as goal

pub touch_of_two-requires : goal.touch_of_two-requires
touch_of_two-requires c = reading-bound _ _ _ _ _ c.read-segment.ensures (omega (arith, c.requires))

pub returns-in-None : goal.returns-in-None
returns-in-None c = λ rest. touch-value _ _ _ _ c.requires.some _ rest _ (pair-none _ _ _ _ _ c.in-None.ensures.split)

pub returns-in-Some : goal.returns-in-Some
returns-in-Some c = λ rest.
    touch-value _ _ _ _ c.requires.some _ rest _
    (c.touch_of_two.ensures
    ∙ pair_within _ _ _ _ _ _ c.in-Some.ensures.split _ _ _ _ c.in-Some.ensures.within c.step_bytes.ensures.split refl
    c.read-segment.ensures c.read-step.ensures)
