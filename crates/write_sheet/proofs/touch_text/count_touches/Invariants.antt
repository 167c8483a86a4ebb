-- The loop's invariant of `write_sheet::touch_text::count_touches`: `count` is the number of touches of the entries passed.
use Prim.Native.Nat.{ℕ, ◌≤◌}
use mathlib.Core.Path.{◌≡◌}
use mathlib.Core.Bool.{Bool}
use mathlib.Core.List.{List}
use lib.ListN.{length, take}
use Rattle.write_sheet.specs.inner.Steps.{touches_with}
use Rattle.write_sheet.proofs.touch_text.count_touches.Given as goal

-- what holds after i of the entries
pub record Counted (entries : List ℕ) (count i : ℕ) : Type 0 where
  pub few : count ≤ i
  pub count_is : (marks : List Bool) → count ≡ length (touches_with (take i entries) marks)

abbrev pub invariant-loop-x : goal.invariant-loop-x
invariant-loop-x l = Counted l.entries l.count l.x-index
