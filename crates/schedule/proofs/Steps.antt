-- The steps that the shape of a schedule takes.
use Prim.Native.Nat.{ℕ, ◌≤◌}
use mathlib.Core.Path.{◌≡◌, ◌∙◌}
use mathlib.Core.Bool.{cond}
use lib.Dec.{leb}
use borrow.Author.Tests.{le-leb}
use Rattle.model.specs.Sheets.{most_steps}

-- as many as a run has are taken
pub steps-taken : (n s : ℕ) → n ≤ most_steps → s ≡ cond (leb n most_steps) n 0 → s ≡ n
steps-taken n s within e = e ∙ rw (le-leb n most_steps within)
