-- Counting intervals by length: what one interval, one step and one segment's end add, and that no count overflows.
use Prim.Native.Nat.{ℕ, zero, suc, ◌+◌, ◌-◌, ◌≤◌, ◌<◌}
use mathlib.Core.Path.{◌≡◌, refl, sym, ◌∙◌}
use mathlib.Core.Bool.{Bool, true, false, cond}
use mathlib.Core.List.{List, []}
use mathlib.Core.Option.{Option, none, some}
use native.Mathlib.Omega.{arith}
use native.Mathlib.Numerals.{add-one}
use lib.Dec.{eqb}
use lib.ListN.{length, get_or, take, set}
use lib.Seq.{get_or-take, length-take-le}
use borrow.Author.Tests.{le-leb, lt-leb, eq-eqb, ne_eqb}
use Rattle.model.specs.Figures.{of_time}
use Rattle.model.specs.Sheets.{listed}
use Rattle.model.specs.Sums.{sum, tabulate}
use Rattle.model.specs.Traces.{Trace, segs, steps, entry, touching, refs_by, refs_of, unreferenced}
use Rattle.model.specs.LastTouches.{start_table, last_from, last_table}
use Rattle.model.proofs.Sums.{sum-none, sum-suc, sum-within}
use Rattle.model.proofs.Tables.{length-tabulate, get_or-tabulate, tabulate-eq, tabulate-const, tabulate-set}
use Rattle.model.proofs.Touches.{touching_at, touching-idle}
use Rattle.model.proofs.Loads.{touching-within}
use Rattle.model.proofs.LastTouches.{length-last_table, last_table-at, start_table-is, last_table-step, last_table-idle}
use Rattle.model.proofs.LastTouches.{unreferenced-within}
use Rattle.window_list.specs.inner.Counts.{lengths, of_length, no_counts, Room, with_interval, with_ends, reuse_count, end_count}
use Rattle.window_list.specs.inner.Counts.{reuse_counts, interval_counts}

-- where g counts one interval more than f, the mark in the table of last touches tells which
counted : (T : Trace) (t i : ℕ) (f g : ℕ → ℕ) → i < 256 → t ≤ 2048 → ((u : ℕ) → g u ≡ f u + of_time (of_length u) (unreferenced T t i))
    → with_interval (tabulate lengths f) (get_or (last_table T t) i 0) t ≡ tabulate lengths g
unfolding with_interval
counted T t i f g few short adds = rw (last_table-at T t i 0 few) (go (unreferenced T t i) refl)
  where
    go : (o : Option ℕ) → unreferenced T t i ≡ o
        → with_interval (tabulate lengths f) (last_from t (unreferenced T t i)) t ≡ tabulate lengths g
    go none e = rw (e, lt-leb 65535 t (omega arith)) (tabulate-eq lengths f g (λ u l. omega (arith, rw e at (adds u))))
    go (some k) e =
        let within = unreferenced-within T t i k e in
        let same : t - (t - k) + 1 ≡ suc k = omega arith in
        let here : f (suc k) + 1 ≡ g (suc k) = omega (arith, rw (e, eq-eqb (suc k) (suc k) refl) at (adds (suc k))) in
        rw (e, le-leb (t - k) t (omega arith), same, get_or-tabulate lengths f (suc k) 0 (omega arith), here)
        (tabulate-set lengths f g (suc k) (omega arith) (λ j l other. omega (arith, rw (e, ne_eqb j (suc k) other) at (adds j))))

-- one segment's end more
pub ends-step : (old counts new marks : List ℕ) (t i : ℕ) → counts ≡ with_ends old marks t i → new
    ≡ with_interval counts (get_or marks i 0) t
    → new ≡ with_ends old marks t (i + 1)
unfolding with_ends
ends-step old counts new marks t i e f = f ∙ rw (e, add-one i)

-- an interval adds at most 1 to a count
one-interval : (u : ℕ) (o : Option ℕ) → of_time (of_length u) o ≤ 1
one-interval u none = omega arith
one-interval u (some k) = go (eqb u (suc k))
  where
    go : (b : Bool) → cond b 1 0 ≤ 1
    go true = omega arith
    go false = omega arith

reuse-few : (T : Trace) (n u : ℕ) → reuse_count T n u ≤ n
unfolding reuse_count
reuse-few T n u =
    omega (
      arith,
      touching-within T n 1 (λ t i. of_time (of_length u) (unreferenced T t i)) (λ t i lt l. one-interval u (unreferenced T t i)),
    )

end-few : (T : Trace) (n u : ℕ) → end_count T n u ≤ n
unfolding end_count
end-few T n u =
    omega (
      arith,
      sum-within n 1 (λ i. of_time (of_length u) (unreferenced T (steps T) i)) (λ i l. one-interval u (unreferenced T (steps T) i)),
    )

-- there is room for one more in the counts of few intervals
room : (f : ℕ → ℕ) → ((u : ℕ) → f u < 65535) → Room (tabulate lengths f)
room f few = (length-tabulate lengths f, λ u l. rw (get_or-tabulate lengths f u 0 l) (few u))

pub reuse-room : (T : Trace) (n : ℕ) → n ≤ 2048 → Room (reuse_counts T n)
unfolding reuse_counts
reuse-room T n short = room (reuse_count T n) (λ u. omega (arith, reuse-few T n u))

-- after t steps: the reuses are counted, and the table of last touches is that of t steps
pub record Passing (T : Trace) (counts : List ℕ) (touches : ℕ) (last : List ℕ) (t : ℕ) : Type 0 where
  pub within : t ≤ steps T
  pub counts_are : counts ≡ reuse_counts T t
  pub touches_are : touches ≡ sum t (touching T (λ t i. 1))
  pub last_is : last ≡ last_table T t

pub few-touches : (T : Trace) (t : ℕ) → sum t (touching T (λ t i. 1)) ≤ t
few-touches T t = omega (arith, touching-within T t 1 (λ t i. 1) (λ t i lt l. omega arith))

module _ (T : Trace) (few : segs T ≤ 256) (short : steps T ≤ 2048) where
  pub passing_start : ((i : ℕ) → T.start i ≡ listed [] i) → Passing T no_counts 0 (start_table []) 0
  unfolding no_counts reuse_counts reuse_count
  passing_start fresh =
      record {
        within = omega arith;
        counts_are = tabulate-const lengths 0 (reuse_count T 0)
            (λ u l. sum-none (touching T (λ t i. of_time (of_length u) (unreferenced T t i))));
        touches_are = sym (sum-none (touching T (λ t i. 1)));
        last_is = start_table-is T [] fresh;
      }

  pub passing_touch : (counts new last : List ℕ) (touches t i : ℕ) → Passing T counts touches last t → t < steps T → entry T t ≡ i
      → i < segs T
      → new ≡ with_interval counts (get_or last i 0) t → Passing T new (touches + 1) (set last i (t + 1)) (t + 1)
  unfolding reuse_counts reuse_count
  passing_touch counts new last touches t i v lt ei li e =
      let is-segment : entry T t < segs T = omega (arith, ei) in
      record {
        within = omega arith;
        counts_are =
            e
            ∙ rw (v.counts_are, v.last_is, add-one t, ← ei)
            (counted T t (entry T t) (reuse_count T t) (reuse_count T (suc t)) (omega arith) (omega arith)
            (λ u. let f : ℕ → ℕ → ℕ = λ t i. of_time (of_length u) (unreferenced T t i) in
            omega (arith, sum-suc t (touching T f), touching_at T f t is-segment)));
        touches_are = rw (add-one t) (omega (
          arith,
          v.touches_are,
          sum-suc t (touching T (λ t i. 1)),
          touching_at T
              (λ t i. 1) t is-segment,
        ));
        last_is = rw (v.last_is, add-one t, ← ei) (last_table-step T t is-segment few);
      }

  -- a step that touches nothing
  pub passing_idle : (counts last : List ℕ) (touches t : ℕ) → Passing T counts touches last t → t < steps T → segs T ≤ entry T t
      → Passing T counts touches last (t + 1)
  unfolding reuse_counts reuse_count
  passing_idle counts last touches t v lt idle =
      record {
        within = omega arith;
        counts_are =
            v.counts_are
            ∙ rw (add-one t)
            (tabulate-eq lengths (reuse_count T t) (reuse_count T (suc t))
            (λ u l. let f : ℕ → ℕ → ℕ = λ t i. of_time (of_length u) (unreferenced T t i) in
            omega (arith, sum-suc t (touching T f), touching-idle T f t idle)));
        touches_are = rw (add-one t) (omega (arith, v.touches_are, sum-suc t (touching T (λ t i. 1)), touching-idle T (λ t i. 1) t idle));
        last_is = rw (add-one t) (v.last_is ∙ last_table-idle T t idle);
      }

  -- after all steps
  pub passing_done : (counts last : List ℕ) (touches t : ℕ) → Passing T counts touches last t → t ≡ steps T
      → (touches ≡ refs_of T) × (last ≡ last_table T (steps T)) × (counts ≡ reuse_counts T (steps T))
  unfolding refs_by
  passing_done counts last touches t v all =
      (v.touches_are ∙ rw all, v.last_is ∙ rw all, v.counts_are ∙ rw all)

  -- the end intervals of the first n segments beside all reuses
  pub ends-counted : (n : ℕ) → n ≤ segs T
      → with_ends (reuse_counts T (steps T)) (take (segs T) (last_table T (steps T))) (steps T) n ≡ interval_counts T n
  unfolding with_ends reuse_counts interval_counts end_count
  ends-counted zero le =
      tabulate-eq lengths (reuse_count T (steps T)) (λ u. reuse_count T (steps T) u + end_count T 0 u)
      (λ u l. omega (arith, sum-none (λ i. of_time (of_length u) (unreferenced T (steps T) i))))
  ends-counted (suc n) le =
      rw (ends-counted n (omega arith), get_or-take (segs T) (last_table T (steps T)) n 0 (omega arith))
      (counted T (steps T) n (λ u. reuse_count T (steps T) u + end_count T n u) (λ u. reuse_count T (steps T) u + end_count T (suc n) u)
      (omega arith) short (λ u. omega (arith, sum-suc n (λ i. of_time (of_length u) (unreferenced T (steps T) i)))))

  -- the pass over the steps hands its counts, and of its table the marks of the segments, to that over the segments
  module _ (counts last : List ℕ) (counts_are : counts ≡ reuse_counts T (steps T)) (last_is : last ≡ last_table T (steps T)) where
    pub marks_whole : segs T ≤ length last
    marks_whole = rw last_is (omega (arith, length-last_table T (steps T)))

    pub marks-length : length (take (segs T) last) ≡ segs T
    marks-length = length-take-le (segs T) last marks_whole

    pub ends-room : (n : ℕ) → n ≤ length (take (segs T) last) → Room (with_ends counts (take (segs T) last) (steps T) n)
    unfolding interval_counts
    ends-room n le =
        rw (counts_are, last_is, ends-counted n (omega (arith, marks-length)))
        (room (λ u. reuse_count T (steps T) u + end_count T n u)
        (λ u. omega (arith, marks-length, reuse-few T (steps T) u, end-few T n u)))

    pub ends-done : (new : List ℕ) → new ≡ with_ends counts (take (segs T) last) (steps T) (length (take (segs T) last))
        → new ≡ interval_counts T (segs T)
    ends-done new e = e ∙ rw (marks-length, counts_are, last_is) (ends-counted (segs T) (omega arith))
