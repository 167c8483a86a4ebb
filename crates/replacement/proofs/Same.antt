-- Only the number of segments and the entries of the steps count: kind, weight and sizes do not.
use Prim.Native.Nat.{ℕ, zero, suc}
use mathlib.Core.Path.{◌≡◌, refl, sym, ap, ◌∙◌}
use mathlib.Core.List.{List}
use lib.ListN.{length}
use Rattle.model.specs.Sums.{sum, tabulate}
use Rattle.model.specs.Traces.{Trace, segs, steps, entry, touching, over_touches}
use Rattle.model.proofs.Sums.{sum-eq}
use Rattle.model.proofs.Tables.{tabulate-eq}
use Rattle.replacement.specs.Orders.{place_of}
use Rattle.replacement.specs.Recency.{recency, distance, miss_beyond, lru_misses, lru_curve, looked_in, entries_looked}
use Rattle.replacement.specs.Memory.{simulated_curve}
use Rattle.replacement.proofs.Agree.{curves_agree}

module _ (T U : Trace) (sizes : segs T ≡ segs U) (refs : T.entries ≡ U.entries) where
  entry-same : (t : ℕ) → entry T t ≡ entry U t
  entry-same t = rw (sizes, refs)

  recency-same : (t : ℕ) → recency T t ≡ recency U t
  unfolding recency
  recency-same zero = refl
  recency-same (suc t) = rw (recency-same t, entry-same t, sizes)

  -- what is summed over the touches by the list is the same
  touches-same : (f : ℕ → List ℕ → ℕ) → over_touches T (λ t i. f i (recency T t)) ≡ over_touches U (λ t i. f i (recency U t))
  unfolding touching
  touches-same f =
      ap (λ (n : ℕ). sum n (touching T (λ t i. f i (recency T t)))) (ap length refs)
      ∙ sum-eq (steps U) (touching T (λ t i. f i (recency T t))) (touching U (λ t i. f i (recency U t)))
      (λ t lt. rw (recency-same t, entry-same t, sizes))

  pub misses-same : (k : ℕ) → lru_misses T k ≡ lru_misses U k
  unfolding lru_misses distance
  misses-same k = touches-same (λ i l. miss_beyond k (place_of i l))

  pub looked-same : entries_looked T ≡ entries_looked U
  unfolding entries_looked distance
  looked-same = touches-same (λ i l. looked_in l (place_of i l))

  -- so are the lists of misses, by distances and by simulation
  pub curve-same : lru_curve T ≡ lru_curve U
  curve-same =
      ap (λ (n : ℕ). tabulate n (λ j. lru_misses T (suc j))) sizes
      ∙ tabulate-eq (segs U) (λ j. lru_misses T (suc j)) (λ j. lru_misses U (suc j)) (λ j lt. misses-same (suc j))

  pub simulated-same : simulated_curve T ≡ simulated_curve U
  simulated-same = sym (curves_agree T) ∙ (curve-same ∙ curves_agree U)
