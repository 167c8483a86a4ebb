-- The recursion and the row definition agree at every window: by induction over the window, each step of it for all reuses and end
-- intervals at once.
use Prim.Native.Nat.{ℕ, zero, suc, ◌+◌, ◌-◌, ◌*◌, ◌≤◌, ◌<◌, min}
use mathlib.Core.Path.{◌≡◌, refl, ap, ◌∙◌}
use mathlib.Core.Bool.{Bool, true, false, cond}
use mathlib.Core.Option.{Option, none, some}
use native.Mathlib.Omega.{arith}
use lib.Dec.{ltb}
use lib.ListN.{length, get_or}
use borrow.Author.Tests.{ltb-true, ltb-false}
use Rattle.model.specs.Traces.{Trace, steps, segs, size_of, refs_by, refs_of, unreferenced}
use Rattle.model.specs.Figures.{of_time, ref_volume, smaller, wsmem, wsspace, wsocc}
use Rattle.model.specs.declared.Kind.{Kind}
use Rattle.model.specs.declared.Kind.TheVariants.{Time, Space}
use Rattle.model.proofs.Loads.{over_touches-eq}
use Rattle.model.proofs.Sums.{sum-eq}
use Rattle.model.proofs.Tables.{length-tabulate, get_or-tabulate, tabulate-eq}
use Rattle.windows.specs.Answers.{wsoccs}
use Rattle.windows.specs.Windows.{over_intervals, longer_than, window_at, window_list, Windowed}
use Rattle.windows.proofs.Intervals.{intervals-add, intervals-zero}

-- the smaller of k and n + 1 is one more than that of k and n where an interval of k + 1 steps is longer than n + 1
min-next : (n k : ℕ) → min k (suc n) ≡ min k n + cond (ltb (suc n) (suc k)) 1 0
min-next n k = go (ltb (suc n) (suc k)) refl
  where
    go : (b : Bool) → ltb (suc n) (suc k) ≡ b → min k (suc n) ≡ min k n + cond (ltb (suc n) (suc k)) 1 0
    go true e = rw e (omega (arith, ltb-true (suc n) (suc k) e))
    go false e = rw e (omega (arith, ltb-false (suc n) (suc k) e))

module _ (T : Trace) (ok : Windowed T) where
  -- at the prices n and 1 the smaller value is that of the unreferenced time and n
  smaller-min : (n t i : ℕ) → i < segs T → size_of T i * smaller T n 1 t i ≡ of_time (λ k. min k n) (unreferenced T t i)
  unfolding smaller
  smaller-min n t i lt = go (unreferenced T t i) refl
    where
      go : (o : Option ℕ) → unreferenced T t i ≡ o → size_of T i * smaller T n 1 t i ≡ of_time (λ k. min k n) (unreferenced T t i)
      go none e = rw e (omega arith)
      go (some k) e = rw (e, ok.time, ok.no_weight, ok.unit_size i lt) (omega arith)

  -- V is the number of touches
  volume-touches : ref_volume T ≡ refs_of T
  unfolding ref_volume refs_by
  volume-touches = over_touches-eq T (λ t i. size_of T i) (λ t i. 1) (λ t i lt l m. ok.unit_size i l)

  time-space : (h d : ℕ) → wsocc T h d ≡ wsspace T h d
  unfolding wsocc
  time-space h d = ap (λ (k : Kind). elim k [ Time ↦ wsspace T h d | Space ↦ wsmem T h d ]) ok.time

  -- wsocc at the prices n and 1: the touches, and what every interval adds
  wsocc-min : (n : ℕ) → wsocc T n 1 ≡ refs_of T + over_intervals T (λ k. min k n)
  unfolding wsspace over_intervals
  wsocc-min n =
      rw (time-space n 1) (omega (
        arith,
        volume-touches,
        over_touches-eq T (λ t i. size_of T i * smaller T n 1 t i) (λ t i. of_time (λ k. min k n) (unreferenced T t i))
            (λ t i lt l m. smaller-min n t i l),
        sum-eq (segs T) (λ i. size_of T i * smaller T n 1 (steps T) i) (λ i. of_time (λ k. min k n) (unreferenced T (steps T) i))
            (λ i l. smaller-min n (steps T) i l),
      ))

  -- the recursion gives wsocc at the threshold n over 1, for every window n + 1
  pub window-wsocc : (n : ℕ) → window_at T n ≡ wsocc T n 1
  unfolding window_at longer_than
  window-wsocc zero = omega (arith, wsocc-min 0, intervals-zero T (λ k. min k 0) (λ k. omega arith))
  window-wsocc (suc n) =
      omega (
        arith,
        window-wsocc n,
        wsocc-min n,
        wsocc-min (suc n),
        intervals-add T (λ k. min k (suc n)) (λ k. min k n) (λ k. cond (ltb (suc n) (suc k)) 1 0) (min-next n),
      )

  -- so the list by the recursion is that by the row definition
  pub list-wsoccs : window_list T ≡ wsoccs T
  unfolding window_list wsoccs
  list-wsoccs = tabulate-eq (steps T) (window_at T) (λ n. wsocc T n 1) (λ n lt. window-wsocc n)

  -- and has steps entries, that of the window w at place w - 1
  pub list-wsocc : (w : ℕ) → 1 ≤ w → w ≤ steps T → get_or (window_list T) (w - 1) 0 ≡ wsocc T (w - 1) 1
  unfolding window_list
  list-wsocc w one within = get_or-tabulate (steps T) (window_at T) (w - 1) 0 (omega arith) ∙ window-wsocc (w - 1)

pub list_length_lem : (T : Trace) → length (window_list T) ≡ steps T
unfolding window_list
list_length_lem T = length-tabulate (steps T) (window_at T)
