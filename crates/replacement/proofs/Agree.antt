-- The misses by stack distances are those of the memory simulated, for every run and every number of frames.
use Prim.Native.Nat.{ℕ, suc}
use mathlib.Core.Path.{◌≡◌, sym, ◌∙◌}
use mathlib.Core.Bool.{cond}
use Rattle.model.specs.Traces.{Trace, segs}
use Rattle.model.proofs.Loads.{over_touches-eq}
use Rattle.model.proofs.Tables.{tabulate-eq}
use Rattle.replacement.specs.Memory.{has, lru_simulated, simulated_curve}
use Rattle.replacement.specs.Recency.{recency, distance, miss_beyond, lru_misses, lru_curve}
use Rattle.replacement.proofs.Frames.{simulated-ordered}
use Rattle.replacement.proofs.Ordered.{ordered, inclusion}
use Rattle.replacement.proofs.Orders.{miss-has}

module _ (T : Trace) where
  pub engines-agree : (k : ℕ) → lru_misses T k ≡ lru_simulated T k
  unfolding lru_misses distance
  engines-agree k =
      over_touches-eq T (λ t i. miss_beyond k (distance T t i)) (λ t i. cond (has i (ordered T k t)) 0 1)
      (λ t i lt l m. rw (inclusion T k t) (miss-has k i (recency T t)))
      ∙ sym (simulated-ordered T k)

  pub curves_agree : lru_curve T ≡ simulated_curve T
  curves_agree = tabulate-eq (segs T) (λ j. lru_misses T (suc j)) (λ j. lru_simulated T (suc j)) (λ j lt. engines-agree (suc j))
