-- The range of k, asked before all lines.
use Prim.Native.Nat.{ℕ, ◌≤◌, ◌<◌}
use mathlib.Core.Path.{◌≡◌, refl}
use mathlib.Core.List.{List}
use borrow.Author.Tests.{le-leb, lt-leb}
use Rattle.model.specs.declared.Refusal.TheVariants.{PageOutOfRange}
use Rattle.din.specs.Pages.{refused, touched_by}
use Rattle.din.specs.Pages.{least_power, largest_power, touched_with}

module _ (k : ℕ) (bytes : List ℕ) where
  pub power-low : k < least_power → touched_with k bytes ≡ refused PageOutOfRange
  unfolding touched_with
  power-low lt = rw (lt-leb least_power k lt) refl

  module _ (le : least_power ≤ k) where
    pub power-high : largest_power < k → touched_with k bytes ≡ refused PageOutOfRange
    unfolding touched_with
    power-high lt = rw (le-leb least_power k le, lt-leb k largest_power lt) refl

    pub power-within : k ≤ largest_power → touched_with k bytes ≡ touched_by k bytes
    unfolding touched_with
    power-within most = rw (le-leb least_power k le, le-leb k largest_power most) refl
