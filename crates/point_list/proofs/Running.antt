-- Running sums along sorted keys are memory and load of the points, and the points are those of the run.
use Rattle.std.specs.Prelude.{Ok, Err}
use Prim.Native.Nat.{ℕ, zero, suc, ◌+◌, ◌*◌, ◌%◌, ◌^◌, ◌≤◌, ◌<◌}
use mathlib.Core.Path.{◌≡◌, refl, ap, sym, ◌∙◌}
use mathlib.Core.Bool.{Bool, true, false, cond}
use mathlib.Core.Logic.{⊎_elim}
use native.Mathlib.Nat.{eq-or-lt_of_le}
use borrow.Table.Steps.{cases}
use mathlib.Core.List.{List, [], ◌∷◌, ◌++◌}
use native.Mathlib.Omega.{arith}
use lib.Dec.{eqb, leb, ltb}
use lib.ListN.{length, get_or, drop, length-append}
use borrow.Author.Tests.{eqb-true, eqb-false, leb-true, leb-false, le-leb, lt-leb, ltb-true, ltb-false}
use Rattle.model.specs.Costs.{total_cost}
use Rattle.model.specs.Figures.{retention_of, kept, ref_cost, optmem}
use Rattle.model.specs.Places.{PlaceLeft}
use Rattle.model.specs.Sheets.{RunWithin}
use Rattle.model.specs.Sums.{sum}
use Rattle.model.specs.Traces.{Trace, segs, steps, touched, touching, size_of, swap_of, unit_of, over_touches}
use Rattle.model.specs.declared.Refusal.TheVariants.{PlaceTooShort}
use Rattle.model.proofs.Bounds.{unit-within, either-within}
use Rattle.model.proofs.Loads.{over_touches-eq, over_touches-total, touching-le, touching-within, load-swaps}
use Rattle.model.proofs.Places.{text-short, text-fits}
use Rattle.model.proofs.Sums.{sum-suc, sum-eq, sum-le, sum-within}
use Rattle.model.proofs.Touches.{entry-touched}
use Rattle.points.specs.Points.{Ratio, reuses, ratio_at, zero_one, thresholds, threshold_at, point_memory, point_load, point_numbers}
use Rattle.points.specs.Points.{operating_points}
use Rattle.points.proofs.Lines.{kept-within, kept_above, kept-first}
use Rattle.point_list.specs.inner.Held.{ratio_in, reuse_ratios, whole_load}
use Rattle.point_list.specs.inner.Keys.{units_of, numbers, key_of}
use Rattle.point_list.proofs.Steps.{reuse_sum}
use Rattle.point_list.proofs.Fine.{Fine, fine-reuse, held-few, below_quotient, quotient-less}
use Rattle.point_list.specs.inner.Walk.{places, quotient_at, reuse_at, before_at, ended, memory_to, load_to, point_at, points_to, points_of}
use Rattle.point_list.specs.inner.Walk.{Summable}
use Rattle.point_list.proofs.Ordered.{SortedRun, at_key, quot, key-at, key-fine, quotients-rise}
use Rattle.point_list.proofs.Along.{fine-threshold, before-most, before-rises, Reached, along, points-count}
use Rattle.point_list.proofs.Writing.{ended-new, ended_same}

-- how many numbers the points are
pub numbers-length : (T : Trace) (k : ℕ) → length (point_numbers T k) ≡ 4 * k
unfolding point_numbers
numbers-length T zero = refl
numbers-length T (suc k) =
    length-append (point_numbers T k) ((threshold_at T k).R ∷ (threshold_at T k).w ∷ point_memory T k ∷ point_load T k ∷ [])
    ∙ omega (arith, numbers-length T k)

-- a sum whose terms from place i on are 0
sum_head : (n i : ℕ) (f g : ℕ → ℕ) → i ≤ n → ((k : ℕ) → k < i → f k ≡ g k) → ((k : ℕ) → i ≤ k → k < n → f k ≡ 0) → sum n f ≡ sum i g
sum_head zero i f g le same none = let e : i ≡ 0 = omega arith in rw e (sum-eq 0 f g (λ k lt. absurd (omega arith)))
sum_head (suc n) i f g le same none =
    ⊎_elim
    (λ all. rw all (sum-eq (suc n) f g (λ k lt. same k (omega arith))))
    (λ lt. omega (
      arith,
      sum-suc n f,
      sum_head n i f g (omega arith) same (λ k a b. none k a (omega arith)),
      none n (omega arith) (omega arith),
    ))
    (eq-or-lt_of_le le)

-- the sum over touches of two things is the sum of their sums
split : (T : Trace) (f g h : ℕ → ℕ → ℕ) → ((t i : ℕ) → t < steps T → i < segs T → touched T t i ≡ true → f t i ≡ g t i + h t i)
    → over_touches T f ≡ over_touches T g + over_touches T h
split T f g h eq =
    over_touches-eq T f (λ t i. total_cost 1 1 (g t i) (h t i)) (λ t i lt li m. eq t i lt li m ∙ omega arith)
    ∙ (over_touches-total T 1 1 g h ∙ omega arith)

-- the memory of the references is small
references-small : (T : Trace) → RunWithin T → ref_cost T ≤ 2048 * 65535
unfolding ref_cost
references-small T ok =
    omega (
      arith,
      ok.steps_within,
      touching-within T (steps T) 65535 (λ t i. unit_of T i)
          (λ t i lt l. unit-within T.kind (size_of T i) 65535 (omega arith) (omega (arith, ok.size_within i l))),
    )

-- w of the reuses is within the load with none kept
reuse-costs : (T : Trace) → over_touches T (λ t i. cond (reuses T t) (ratio_at T t).w 0) ≤ whole_load T
unfolding whole_load
reuse-costs T =
    sum-le (steps T) (touching T (λ t i. cond (reuses T t) (ratio_at T t).w 0)) (touching T (λ t i. swap_of T i))
    (λ t lt. touching-le T (λ t i. cond (reuses T t) (ratio_at T t).w 0) (λ t i. swap_of T i) t
    (λ i l m. either-within (reuses T t) (ratio_at T t).w 0 (swap_of T i)
    (omega (arith, ap (swap_of T) (entry-touched T t i m))) (omega arith)))

module _ {T : Trace} {rs ws keys : List ℕ} {n : ℕ} (g : SortedRun T rs ws keys n) where
  -- a sum over the keys is one over the reuses of the run
  key-sum : (f : Ratio → ℕ) → sum n (λ k. f (at_key g k)) ≡ over_touches T (λ t i. cond (reuses T t) (f (ratio_at T t)) 0)
  key-sum f =
      let few = held-few g.ok g.held in
      let l = reuse_ratios T (steps T) in
      g.sorted.same (λ x. f (ratio_in rs ws (x % numbers)))
      ∙ (sum-eq n (λ j. f (ratio_in rs ws (key_of (units_of T.a) (ratio_in rs ws j) j % numbers))) (λ j. f (get_or l j zero_one))
      (λ j lt.
      let e : key_of (units_of T.a) (ratio_in rs ws j) j % numbers ≡ j = omega arith in
      ap (λ (x : ℕ). f (ratio_in rs ws x)) e ∙ ap f (sym (g.held.entries j lt)))
      ∙ (ap (λ (m : ℕ). sum m (λ j. f (get_or l j zero_one))) (sym g.held.size) ∙ reuse_sum T f (steps T)))

  -- what the keys before key i make of a threshold with that quotient
  module _ (k i : ℕ) (v : Reached g k i) (le : i ≤ n)
      (up : (x : ℕ) → i ≤ x → x < n → before_at keys i < quotient_at keys x) where
    abbrev p : Ratio
    p = threshold_at T k

    abbrev within : Ratio → Bool
    within x = leb (quot T x) (before_at keys i)

    -- a touch is kept at the threshold where its quotient is within
    kept_is : (t j z : ℕ) → t < steps T → j < segs T → touched T t j ≡ true
        → cond (kept T p.R p.w t j) z 0 ≡ cond (reuses T t) (cond (within (ratio_at T t)) z 0) 0
    kept_is t j z lt lj m =
        cases (reuses T t) (λ r. rw (r, cases (within (ratio_at T t)) (λ e. inside r e ∙ sym e) (λ e. outside r e ∙ sym e)))
        (λ r. rw (kept-first T p t j lj m r, r))
      where
        fine : Fine T.a p
        fine = fine-threshold g k v.there

        inside : reuses T t ≡ true → within (ratio_at T t) ≡ true → kept T p.R p.w t j ≡ true
        inside r e =
            let low = leb-true (quot T (ratio_at T t)) (before_at keys i) e in
            kept-within T p t j lj m r
            (cases (ltb (p.R * (ratio_at T t).w) ((ratio_at T t).R * p.w))
            (λ f. absurd (omega (arith, low, v.quotient, below_quotient fine (fine-reuse T g.ok t lt r) (ltb-true _ _ f))))
            (λ f. ltb-false (p.R * (ratio_at T t).w) ((ratio_at T t).R * p.w) f))

        outside : reuses T t ≡ true → within (ratio_at T t) ≡ false → kept T p.R p.w t j ≡ false
        outside r e =
            kept_above T p t j lj m
            (quotient-less fine (fine-reuse T g.ok t lt r)
            (omega (arith, v.quotient, leb-false (quot T (ratio_at T t)) (before_at keys i) e)))

    -- the sum over the touches that are kept
    kept-sum : (h : Ratio → ℕ) (f : ℕ → ℕ → ℕ)
        → ((t j : ℕ) → t < steps T → j < segs T → touched T t j ≡ true → f t j ≡ h (ratio_at T t))
        → over_touches T (λ t j. cond (kept T p.R p.w t j) (f t j) 0) ≡ sum i (λ x. h (at_key g x))
    kept-sum h f eq =
        over_touches-eq T (λ t j. cond (kept T p.R p.w t j) (f t j) 0)
        (λ t j. cond (reuses T t) (cond (within (ratio_at T t)) (h (ratio_at T t)) 0) 0)
        (λ t j lt lj m. ap (λ (z : ℕ). cond (kept T p.R p.w t j) z 0) (eq t j lt lj m)
        ∙ kept_is t j (h (ratio_at T t)) lt lj m)
        ∙ (sym (key-sum (λ x. cond (within x) (h x) 0))
        ∙ sum_head n i (λ x. cond (within (at_key g x)) (h (at_key g x)) 0)
        (λ x. h (at_key g x)) le
        (λ x lt. rw (le-leb (quot T (at_key g x)) (before_at keys i)
        (omega (
          arith,
          (key-at g x (omega arith)).quotient,
          before-most g i x le lt,
        ))))
        (λ x ge lt. rw (lt-leb (quot T (at_key g x)) (before_at keys i)
        (omega (arith, (key-at g x lt).quotient, up x ge lt)))))

    pub memory-at : point_memory T k ≡ ref_cost T + sum i (λ x. get_or rs (reuse_at keys x) 0)
    unfolding optmem
    memory-at =
        ap (λ (x : ℕ). ref_cost T + x)
        (kept-sum (λ x. x.R) (retention_of T) (λ t j lt lj m. ap (retention_of T t) (sym (entry-touched T t j m))))

    pub load_at_lem : whole_load T ≡ point_load T k + sum i (λ x. get_or ws (reuse_at keys x) 0)
    unfolding whole_load
    load_at_lem =
        rw (load-swaps T p.R p.w)
        (split T (λ t j. swap_of T j) (λ t j. cond (kept T p.R p.w t j) 0 (swap_of T j))
        (λ t j. cond (kept T p.R p.w t j) (swap_of T j) 0)
        (λ t j lt lj m. cases (kept T p.R p.w t j) (λ e. rw e (omega arith)) (λ e. rw e (omega arith)))
        ∙ ap (λ (x : ℕ). over_touches T (λ t j. cond (kept T p.R p.w t j) 0 (swap_of T j)) + x)
        (kept-sum (λ x. x.w) (λ t j. swap_of T j) (λ t j lt lj m. ap (swap_of T) (sym (entry-touched T t j m)))))

  module _ {memory load : ℕ} (memory_is : memory ≡ ref_cost T) (load_is : load ≡ whole_load T) where
    -- the point that ends before key i
    point-is : (i : ℕ) → i ≤ n → ((x : ℕ) → i ≤ x → x < n → before_at keys i < quotient_at keys x)
        → point_numbers T (ended keys i) ++ point_at rs ws keys memory load n i ≡ point_numbers T (suc (ended keys i))
    unfolding point_numbers
    point-is i le up =
        let a = along g memory load i le in
        let m : memory_to rs ws keys memory load n i ≡ point_memory T (ended keys i) =
        omega (arith, memory_is, memory-at (ended keys i) i a.reached le up) in
        let l : load_to rs ws keys memory load n i ≡ point_load T (ended keys i) =
        omega (arith, load_is, load_at_lem (ended keys i) i a.reached le up) in
        rw (a.leads, m, l)

    no-points : point_numbers T (ended keys 0) ≡ []
    unfolding point_numbers ended
    no-points = refl

    points-are : (i : ℕ) → i ≤ n → points_to rs ws keys memory load n i ≡ point_numbers T (ended keys i)
    unfolding points_to
    points-are zero le = sym no-points
    points-are (suc i) le =
        let rec = points-are i (omega arith) in
        cases (eqb (quotient_at keys i) (before_at keys i))
        (λ e. rw (e, ended_same keys i (eqb-true _ _ e)) rec)
        (λ e.
        let ne = eqb-false (quotient_at keys i) (before_at keys i) e in
        rw (e, ended-new keys i ne, rec)
        (point-is i (omega arith) (λ x ge lt. omega (arith, before-rises g i le, quotients-rise g i x ge lt))))

    pub all-points : points_of rs ws keys memory load n ≡ operating_points T
    unfolding operating_points
    all-points =
        rw (points-are n (omega arith), points-count g memory load)
        (point-is n (omega arith) (λ x ge lt. absurd (omega arith)))

    -- how many numbers they are
    pub numbers-count : length (operating_points T) ≡ 4 * suc (ended keys n)
    unfolding operating_points
    numbers-count =
        omega (
          arith,
          numbers-length T (length (thresholds T)),
          points-count g memory load,
        )

    pub all-summable : n ≤ length keys → places ≤ length rs → places ≤ length ws → Summable rs ws keys memory load n
    all-summable lk lr lw =
        let few = held-few g.ok g.held in
        record {
          few = few;
          keys_long = lk;
          rs_long = lr;
          ws_long = lw;
          memory_small =
              omega (
                arith,
                few,
                memory_is,
                references-small T g.ok,
                sum-within n (2 ^ 32) (λ k. get_or rs (reuse_at keys k) 0)
                    (λ k lt. omega (arith, (key-fine g k lt).short)),
              );
          cost_within = omega (arith, load_is, key-sum (λ x. x.w), reuse-costs T);
        }

    -- the two ends of `points`
    pub points-short : {out : List ℕ} {count : ℕ} → count ≡ suc (ended keys n) → length out < 4 * count
        → PlaceLeft (Ok (operating_points T)) out out (Err PlaceTooShort)
    points-short {out} e lt = text-short (operating_points T) out (omega (arith, numbers-count))

    pub points-placed : {out out' : List ℕ} {count : ℕ} → count ≡ suc (ended keys n)
        → out' ≡ points_of rs ws keys memory load n ++ drop (4 * suc (ended keys n)) out → 4 * count ≤ length out
        → PlaceLeft (Ok (operating_points T)) out out' (Ok (4 * count))
    points-placed {out} e put le =
        rw (put, all-points, ← e) (text-fits (operating_points T) out (omega (arith, numbers-count)) le)
