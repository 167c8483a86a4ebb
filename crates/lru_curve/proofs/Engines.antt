-- The two engines leave the same numbers in the same place, for every run.
use Prim.Native.Nat.{ℕ}
use mathlib.Core.Path.{◌≡◌, sym, ap, ◌∙◌}
use mathlib.Core.List.{List, ◌++◌}
use lib.ListN.{drop}
use Rattle.model.specs.Traces.{Trace, segs}
use Rattle.replacement.proofs.Agree.{curves_agree}
use Rattle.lru_curve.specs.inner.Left.{ByDistances, BySimulation}

pub engines-agree : (T : Trace) (place by_distances by_simulation : List ℕ) (looked : ℕ)
    → ByDistances T place by_distances looked → BySimulation T place by_simulation → by_distances ≡ by_simulation
engines-agree T place by_distances by_simulation looked d s =
    d.place_is ∙ (ap (λ (q : List ℕ). q ++ drop (segs T) place) (curves_agree T) ∙ sym s)
