-- The loop over the windows: its start and one window more.
use Prim.Native.Nat.{ℕ, suc, ◌+◌, ◌-◌, ◌*◌, ◌≤◌, ◌<◌}
use mathlib.Core.Path.{◌≡◌, refl, ap, sym, ◌∙◌}
use mathlib.Core.Bool.{Bool, true, false, cond}
use mathlib.Core.List.{List, [], ◌∷◌, ◌++◌, append_assoc}
use mathlib.Core.Option.{Option, none, some}
use native.Mathlib.Omega.{arith}
use native.Mathlib.Numerals.{add-one}
use lib.Dec.{eqb, ltb}
use lib.ListN.{length, get_or, set, drop, length-set}
use lib.Seq.{drop-cons, set_at}
use borrow.Author.Tests.{ltb-true, ltb-false, lt-ltb, le-ltb, eqb-true, eqb-false}
use Rattle.model.specs.Costs.{total_cost}
use Rattle.model.specs.Figures.{of_time, is_reuse}
use Rattle.model.specs.Sums.{tabulate}
use Rattle.model.specs.Traces.{Trace, segs, steps, refs_by, refs_of, unreferenced}
use Rattle.model.proofs.FirstTouches.{touched_of, first_of, first-touches}
use Rattle.model.proofs.Loads.{over_touches-eq, over_touches-total}
use Rattle.model.proofs.Sums.{sum-eq}
use Rattle.model.proofs.Tables.{length-tabulate, get_or-tabulate}
use Rattle.windows.specs.Windows.{over_intervals, longer_than, window_at}
use Rattle.windows.proofs.Intervals.{intervals-add}
use Rattle.window_list.specs.inner.Counts.{lengths, of_length, reuse_count, end_count, interval_counts}
use Rattle.window_list.proofs.Counting.{few-touches}

-- an interval longer than n steps is longer than n + 1, or has n + 1
longer-next : (n k : ℕ) → cond (ltb n (suc k)) 1 0 ≡ cond (ltb (suc n) (suc k)) 1 0 + of_length (suc n) k
longer-next n k = go (eqb (suc n) (suc k)) refl (ltb n (suc k)) refl
  where
    go : (b : Bool) → eqb (suc n) (suc k) ≡ b → (l : Bool) → ltb n (suc k) ≡ l
        → cond (ltb n (suc k)) 1 0 ≡ cond (ltb (suc n) (suc k)) 1 0 + cond (eqb (suc n) (suc k)) 1 0
    go true e l f =
        let same = eqb-true (suc n) (suc k) e in
        rw (e, lt-ltb n (suc k) (omega arith), le-ltb (suc n) (suc k) (omega arith)) (omega arith)
    go false e true f =
        let ne = eqb-false (suc n) (suc k) e in
        rw (e, f, lt-ltb (suc n) (suc k) (omega (arith, ltb-true n (suc k) f))) (omega arith)
    go false e false f = rw (e, f, le-ltb (suc n) (suc k) (omega (arith, ltb-false n (suc k) f))) (omega arith)

-- so the count of n + 1 steps is what is taken away from window to window
longer-counts : (T : Trace) (n : ℕ) → n < 2048 → longer_than T n ≡ longer_than T (suc n) + get_or (interval_counts T (segs T)) (suc n) 0
unfolding longer_than over_intervals interval_counts reuse_count end_count
longer-counts T n short =
    rw (get_or-tabulate lengths (λ u. reuse_count T (steps T) u + end_count T (segs T) u) (suc n) 0 (omega arith))
    (intervals-add T (λ k. cond (ltb n (suc k)) 1 0) (λ k. cond (ltb (suc n) (suc k)) 1 0) (of_length (suc n)) (longer-next n))

-- each touch begins one interval: there are as many of them as touches, where no segment counts as touched before step 1
all-touches : (T : Trace) → ((i : ℕ) → T.start i ≡ false) → longer_than T 0 ≡ refs_of T
unfolding longer_than over_intervals refs_by
all-touches T fresh =
    let all : ℕ → ℕ → ℕ = λ t i. of_time (λ k. cond (ltb 0 (suc k)) 1 0) (unreferenced T t i) in
    let first : ℕ → ℕ → ℕ = first_of T (λ i. 1) in
    omega (
      arith,
      over_touches-eq T (λ t i. 1) (λ t i. total_cost 1 1 (all t i) (first t i)) (λ t i lt l m. either (unreferenced T t i)),
      over_touches-total T 1 1 all first,
      sum-eq (segs T) (all (steps T)) (touched_of T (λ i. 1) (steps T)) (λ i l. whole (unreferenced T (steps T) i)),
      first-touches T (λ i. 1) fresh (steps T),
    )
  where
    either : (o : Option ℕ) → 1 ≡ total_cost 1 1 (of_time (λ k. cond (ltb 0 (suc k)) 1 0) o) (cond (is_reuse o) 0 1)
    either none = omega arith
    either (some k) = rw (lt-ltb 0 (suc k) (omega arith)) (omega arith)

    whole : (o : Option ℕ) → of_time (λ k. cond (ltb 0 (suc k)) 1 0) o ≡ cond (is_reuse o) 1 0
    whole none = refl
    whole (some k) = rw (lt-ltb 0 (suc k) (omega arith))

-- before the window t + 1 is written: the place holds the t windows before it
pub record Filling (T : Trace) (old out : List ℕ) (value more t : ℕ) : Type 0 where
  pub within : t ≤ steps T
  pub whole : length out ≡ length old
  pub value_is : value ≡ window_at T t
  pub more_is : more ≡ longer_than T t
  pub small_more : more ≤ 2048
  pub small_value : value ≤ 2048 + t * 2048
  pub out_is : out ≡ tabulate t (window_at T) ++ drop t old

pub filling_start : (T : Trace) (old : List ℕ) (touches : ℕ) → ((i : ℕ) → T.start i ≡ false) → steps T ≤ 2048 → touches ≡ refs_of T
    → Filling T old old touches touches 0
unfolding window_at tabulate refs_by
filling_start T old touches fresh short e =
    let few = few-touches T (steps T) in
    record {
      within = omega arith;
      whole = refl;
      value_is = e;
      more_is = e ∙ sym (all-touches T fresh);
      small_more = omega (arith, e);
      small_value = omega (arith, e);
      out_is = refl;
    }

module _ (T : Trace) (old out counts : List ℕ) (value more t : ℕ) (short : steps T ≤ 2048) (room : steps T ≤ length old)
    (k : counts ≡ interval_counts T (segs T)) (v : Filling T old out value more t) (lt : t < steps T) where
  count_is : longer_than T t ≡ longer_than T (suc t) + get_or counts (t + 1) 0
  count_is = rw (k, add-one t) (longer-counts T t (omega arith))

  pub count-within : get_or counts (t + 1) 0 ≤ more
  count-within = omega (arith, count_is, v.more_is)

  put : set out t value ≡ tabulate (suc t) (window_at T) ++ drop (suc t) old
  unfolding tabulate
  put =
      rw (v.out_is, v.value_is, drop-cons old t 0 (omega arith))
      (set_at (tabulate t (window_at T)) (get_or old t 0) (drop (suc t) old) (window_at T t) t (length-tabulate t (window_at T))
      ∙ sym (append_assoc (tabulate t (window_at T)) (window_at T t ∷ []) (drop (suc t) old)))

  pub filling_step : Filling T old (set out t value) (value + (more - get_or counts (t + 1) 0)) (more - get_or counts (t + 1) 0) (t + 1)
  unfolding window_at
  filling_step =
      let less : more - get_or counts (t + 1) 0 ≡ longer_than T (suc t) = omega (arith, count_is, v.more_is) in
      record {
        within = omega arith;
        whole = length-set out t value ∙ v.whole;
        value_is = rw (less, v.value_is, add-one t);
        more_is = less ∙ ap (longer_than T) (sym (add-one t));
        small_more = omega (arith, v.small_more);
        small_value = omega (arith, v.small_more, v.small_value);
        out_is = rw (add-one t) put;
      }
