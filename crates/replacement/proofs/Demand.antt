-- Requests F-9 and F-10 hold of the definitions, for every run in which no segment counts as touched before step 1.
use Prim.Native.Nat.{ℕ}
use mathlib.Core.Path.{◌≡◌, ◌∙◌}
use mathlib.Core.Bool.{false}
use Rattle.model.specs.Traces.{Trace}
use Rattle.replacement.specs.Demand.{LruDemand}
use Rattle.replacement.specs.Memory.{memory}
use Rattle.replacement.proofs.Agree.{engines-agree, curves_agree}
use Rattle.replacement.proofs.Bounds.{misses-fall, misses-distinct, looked-bound}
use Rattle.replacement.proofs.ByTime.{distance-by-time, held-by-time}
use Rattle.replacement.proofs.Frames.{memory-same, goes_same}
use Rattle.replacement.proofs.Ordered.{ordered}
use Rattle.replacement.proofs.Replacing.{least_recent_goes}

pub lru-demand : (T : Trace) → ((i : ℕ) → T.start i ≡ false) → LruDemand T
lru-demand T fresh =
    record {
      agree = engines-agree T;
      curves_agree = curves_agree T;
      by-time = distance-by-time T fresh;
      most_recent = λ k t i. (memory-same T k t).has_same i ∙ held-by-time T fresh k t i;
      least_recent_goes = λ k t. goes_same T (memory T k) (ordered T k) (memory-same T k) k t (least_recent_goes T fresh k t);
      falls = misses-fall T;
      least = misses-distinct T fresh;
      bounded = looked-bound T fresh;
    }
