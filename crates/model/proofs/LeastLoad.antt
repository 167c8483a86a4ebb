-- No permitted schedule with the total opttotal has a load below load: the lower bound at the prices M × h + 1 and M × d, by which the
-- same reuses are kept where M exceeds every w.
use Prim.Native.Nat.{ℕ, suc, ◌+◌, ◌*◌, ◌≤◌, ◌<◌}
use mathlib.Core.Path.{◌≡◌, refl, sym, ap, ◌∙◌}
use mathlib.Core.Bool.{Bool, true, false, cond}
use mathlib.Core.List.{List}
use native.Mathlib.Omega.{arith}
use native.Mathlib.Nat.{mul-le-mul_left}
use lib.Dec.{leb}
use borrow.Author.Tests.{leb-true, leb-false, le-leb, lt-leb}
use Rattle.model.specs.Costs.{keeps, total_cost}
use Rattle.model.specs.Sums.{sum}
use Rattle.model.specs.Traces.{Trace, segs, swap_of, over_touches}
use Rattle.model.specs.Figures.{ref_cost, retention_of, kept, load, optmem, opttotal}
use Rattle.model.specs.Schedules.{Permitted, schedule_memory, schedule_load, schedule_total}
use Rattle.model.proofs.Sums.{term-le}
use Rattle.model.proofs.Loads.{over_touches-eq, load-swaps}
use Rattle.model.proofs.LowerBound.{schedule-lower-bound}

-- the keep test is the same at prices M times as high, with 1 more for a load, where w is below M
pub keeps-scaled : (M h d r w : ℕ) → w < M → keeps (M * d * r) ((M * h + 1) * w) ≡ keeps (d * r) (h * w)
keeps-scaled M h d r w lt = go (leb (d * r) (h * w)) refl
  where
    go : (b : Bool) → leb (d * r) (h * w) ≡ b → keeps (M * d * r) ((M * h + 1) * w) ≡ keeps (d * r) (h * w)
    go true e =
        rw e (le-leb (M * d * r) ((M * h + 1) * w) (omega (arith, mul-le-mul_left M (leb-true (d * r) (h * w) e))))
    go false e =
        rw e (lt-leb (M * d * r) ((M * h + 1) * w) (omega (arith, mul-le-mul_left M (leb-false (d * r) (h * w) e))))

-- so the same touches of segments with w below M are kept
pub kept-scaled : (T : Trace) (M h d t i : ℕ) → swap_of T i < M → kept T (M * h + 1) (M * d) t i ≡ kept T h d t i
unfolding kept
kept-scaled T M h d t i lt = rw (keeps-scaled M h d (retention_of T t i) (swap_of T i) lt)

module _ (T : Trace) (h d : ℕ) where
  -- M, above every w
  abbrev scale : ℕ
  scale = suc (sum (segs T) (swap_of T))

  -- so every sum over touches that depends on the prices by what is kept is the same
  scaled : (f : Bool → ℕ → ℕ → ℕ)
      → over_touches T (λ t i. f (kept T (scale * h + 1) (scale * d) t i) t i) ≡ over_touches T (λ t i. f (kept T h d t i) t i)
  scaled f =
      over_touches-eq T (λ t i. f (kept T (scale * h + 1) (scale * d) t i) t i) (λ t i. f (kept T h d t i) t i)
      (λ t i lt l m. rw (kept-scaled T scale h d t i (omega (arith, term-le (segs T) i (swap_of T) l))))

  optmem-scaled : optmem T (scale * h + 1) (scale * d) ≡ optmem T h d
  unfolding optmem
  optmem-scaled = ap (λ (x : ℕ). ref_cost T + x) (scaled (λ k t i. cond k (retention_of T t i) 0))

  load-scaled : load T (scale * h + 1) (scale * d) ≡ load T h d
  load-scaled =
      load-swaps T (scale * h + 1) (scale * d) ∙ scaled (λ k t i. cond k 0 (swap_of T i)) ∙ sym (load-swaps T h d)

  -- a permitted schedule with a total of at most opttotal has at least the load of the figures
  pub least-load : (p : List ℕ) → Permitted T p → segs T ≤ 256 → schedule_total T h d p ≤ opttotal T h d
      → load T h d ≤ schedule_load T p
  unfolding opttotal schedule_total
  least-load p ok le within =
      let bound : total_cost (scale * h + 1) (scale * d) (optmem T h d) (load T h d)
      ≤ total_cost (scale * h + 1) (scale * d) (schedule_memory T p) (schedule_load T p)
      = rw (optmem-scaled, load-scaled) at (schedule-lower-bound T (scale * h + 1) (scale * d) p ok le) in
      omega (arith, mul-le-mul_left scale within)
