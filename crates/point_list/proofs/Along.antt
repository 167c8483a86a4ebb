-- The walk along sorted keys makes the thresholds, one after another, and memory and load at each.
use Prim.Native.Nat.{ℕ, zero, suc, ◌*◌, ◌≤◌, ◌<◌}
use mathlib.Core.Path.{◌≡◌, refl, ap, sym, ◌∙◌}
use mathlib.Core.Bool.{Bool, true, false, cond, ◌&&◌}
use mathlib.Core.Logic.{◌⊎◌, inl, inr, ⊎_elim}
use mathlib.Core.List.{List}
use native.Mathlib.Omega.{arith}
use lib.Dec.{eqb, ltb}
use lib.ListN.{length, get_or}
use borrow.Table.Steps.{cases}
use native.Mathlib.Nat.{eq-or-lt_of_le}
use borrow.Author.Tests.{eqb-true, eqb-false, ltb-true, ltb-false}
use Rattle.model.specs.Traces.{Trace, steps}
use Rattle.points.specs.Points.{Ratio, ratio_at, zero_one, thresholds, threshold_at, LessRatio, EqualRatio, Has, Earliest}
use Rattle.points.specs.Curve.{NoZero}
use Rattle.points.proofs.Thresholds.{thresholds-positive, thresholds-ascending, thresholds-have, thresholds-first, thresholds-of-run}
use Rattle.point_list.specs.inner.Held.{ratio}
use Rattle.point_list.specs.inner.Keys.{units_of, numbers}
use Rattle.point_list.proofs.Quotients.{quotient-within}
use Rattle.point_list.proofs.Fine.{Fine, fine-zero, fine-reuse, below_quotient, quotient-same, same-quotient, quotient-less}
use Rattle.point_list.specs.inner.Walk.{quotient_at, reuse_at, before_at, ended, first_cost, leader}
use Rattle.point_list.proofs.Ordered.{SortedRun, at_key, quot, key-at, key-fine, key_step, quotients-rise, found, exact_key}
use Rattle.point_list.proofs.Writing.{ended-new, ended_same}

below_equal : (p q r : Ratio) → q ≡ r → LessRatio p q → LessRatio p r
below_equal p q r e b = rw (← e) b

same-both : (p q r s : Ratio) → p ≡ q → r ≡ s → EqualRatio p r → EqualRatio q s
same-both p q r s e f h = rw (← e, ← f) h

zero-ratio : (r w : ℕ) (y : Ratio) → ratio r w ≡ y → y.R ≡ 0 → ratio 0 w ≡ y
zero-ratio r w y e z = rw (← z, ← e)

module _ {T : Trace} {rs ws keys : List ℕ} {n : ℕ} (g : SortedRun T rs ws keys n) where
  -- a threshold is fine
  pub fine-threshold : (k : ℕ) → k < length (thresholds T) → Fine T.a (threshold_at T k)
  fine-threshold k lt =
      ⊎_elim
      (λ z. rw z.is_zero (fine-zero T.a))
      (λ e. rw e.exact (fine-reuse T g.ok e.step e.before e.reuse))
      (thresholds-of-run T k lt)

  -- a threshold behind another is that of a reuse
  later-earliest : (k : ℕ) → suc k < length (thresholds T) → Earliest T (steps T) (threshold_at T (suc k))
  later-earliest k lt =
      ⊎_elim
      (λ z. absurd
      (omega (
        arith,
        below_equal (threshold_at T k) (threshold_at T (suc k)) zero_one z.is_zero (thresholds-ascending T k (suc k) (omega arith) lt),
      )))
      (λ e. e)
      (thresholds-of-run T (suc k) lt)

  -- the key of a threshold that is that of a reuse
  pub record KeyOf (y : Ratio) : Type 0 where
    pub at : ℕ
    pub within : at < n
    pub quotient : quotient_at keys at ≡ quot T y

  key_of : (y : Ratio) → Earliest T (steps T) y → KeyOf y
  key_of y e =
      let f = found g e.step e.before e.reuse in
      record {
        at = f.at;
        within = f.within;
        quotient =
            (key-at g f.at f.within).quotient
            ∙ ap (quot T) (f.exact ∙ sym e.exact);
      }

  -- before key i all quotients are at most the one before it
  pub before-most : (i k : ℕ) → i ≤ n → k < i → quotient_at keys k ≤ before_at keys i
  unfolding before_at
  before-most zero k le lt = absurd (omega arith)
  before-most (suc i) k le lt = quotients-rise g k i (omega arith) le

  -- the quotient before key i is at most its own
  pub before-rises : (i : ℕ) → i < n → before_at keys i ≤ quotient_at keys i
  unfolding before_at
  before-rises zero lt = omega arith
  before-rises (suc i) lt = quotients-rise g i (suc i) (omega arith) lt

  -- threshold k has the quotient before key i
  pub record Reached (k i : ℕ) : Type 0 where
    pub there : k < length (thresholds T)
    pub quotient : quot T (threshold_at T k) ≡ before_at keys i

  module _ (k i : ℕ) (v : Reached k i) where
    -- a quotient above it: the next threshold is that of key i
    module _ (lt : i < n) (up : before_at keys i < quotient_at keys i) where
      abbrev x : Ratio
      x = at_key g i

      x_is : quotient_at keys i ≡ quot T x
      x_is = (key-at g i lt).quotient

      fine_x : Fine T.a x
      fine_x = key-fine g i lt

      above : LessRatio (threshold_at T k) x
      above = quotient-less (fine-threshold k v.there) fine_x (omega (arith, v.quotient, x_is))

      -- the threshold of key i's ratio
      x_has : Has (thresholds T) x
      x_has =
          let o = key_step g i lt in
          rw o.exact (thresholds-have T o.step o.before o.reuse)

      fine_has : Fine T.a (threshold_at T x_has.place)
      fine_has = fine-threshold x_has.place x_has.within

      -- it is behind threshold k
      x_behind : k < x_has.place
      x_behind =
          cases (ltb k x_has.place) (λ e. ltb-true k x_has.place e)
          (λ e. ⊎_elim
          (λ f.
          let same : EqualRatio (threshold_at T k) x = rw f at x_has.equal in
          absurd (omega (arith, same, above)))
          (λ lt. absurd
          (omega (
            arith,
            below_quotient fine_has (fine-threshold k v.there) (thresholds-ascending T x_has.place k lt v.there),
            quotient-same fine_has fine_x x_has.equal,
            v.quotient,
            x_is,
          )))
          (eq-or-lt_of_le (ltb-false k x_has.place e)))

      next_there : suc k < length (thresholds T)
      next_there = omega (arith, x_behind, x_has.within)

      -- its key is not before key i, nor is its quotient above
      next_quotient : quotient_at keys i ≡ quot T (threshold_at T (suc k))
      next_quotient =
          let key = key_of (threshold_at T (suc k)) (later-earliest k next_there) in
          let over =
          below_quotient (fine-threshold k v.there) fine_next (thresholds-ascending T k (suc k) (omega arith) next_there) in
          let low : quotient_at keys i ≤ quot T (threshold_at T (suc k)) =
          cases (ltb key.at i)
          (λ e. absurd (omega (arith, over, key.quotient, v.quotient, before-most i key.at (omega arith) (ltb-true key.at i e))))
          (λ e. omega (arith, key.quotient, quotients-rise g i key.at (ltb-false key.at i e) key.within)) in
          omega (arith, low, x_is, not_above)
        where
          fine_next : Fine T.a (threshold_at T (suc k))
          fine_next = fine-threshold (suc k) next_there

          not_above : quot T (threshold_at T (suc k)) ≤ quot T x
          not_above =
              ⊎_elim
              (λ e.
              let same : EqualRatio (threshold_at T (suc k)) x = rw (← e) at x_has.equal in
              omega (arith, quotient-same fine_next fine_x same))
              (λ lt. omega (
                arith,
                below_quotient fine_next fine_has (thresholds-ascending T (suc k) x_has.place lt x_has.within),
                quotient-same fine_has fine_x x_has.equal,
              ))
              (eq-or-lt_of_le x_behind)

      pub next_threshold : threshold_at T (suc k) ≡ x
      next_threshold =
          sym
          (exact_key g (threshold_at T (suc k)) (later-earliest k next_there) i lt next_quotient
          (λ j lj. omega (arith, before-most i j (omega arith) lj)))

      pub next_reached : Reached (suc k) (suc i)
      unfolding before_at
      next_reached = record { there = next_there; quotient = sym next_quotient }

    -- no key left: no threshold behind
    pub last_threshold : n ≤ i → i ≤ n → length (thresholds T) ≡ suc k
    last_threshold ge le =
        cases (ltb (suc k) (length (thresholds T)))
        (λ e.
        let lt = ltb-true (suc k) (length (thresholds T)) e in
        let key = key_of (threshold_at T (suc k)) (later-earliest k lt) in
        absurd
        (omega (
          arith,
          below_quotient (fine-threshold k v.there) (fine-threshold (suc k) lt) (thresholds-ascending T k (suc k) (omega arith) lt),
          key.quotient,
          v.quotient,
          before-most i key.at le (omega (arith, key.within)),
        )))
        (λ e. omega (arith, ltb-false (suc k) (length (thresholds T)) e, v.there))

  -- the first threshold is 0
  first-quotient : quot T (threshold_at T 0) ≡ 0
  first-quotient =
      let first = thresholds-first T in
      let none : (threshold_at T 0).R * units_of T.a ≡ 0 = ap (λ (r : ℕ). r * units_of T.a) first.zero_first ∙ omega arith in
      omega (
        arith,
        quotient-within (units_of T.a) 0 (threshold_at T 0) (thresholds-positive T 0 first.some_entry) (omega (arith, none)),
      )

  pub first-reached : Reached 0 0
  unfolding before_at
  first-reached = record { there = (thresholds-first T).some_entry; quotient = first-quotient }

  -- 0 and w of the first key where its quotient is 0, else 0 and 1
  pub first-leader : ratio 0 (first_cost ws keys n) ≡ threshold_at T 0
  first-leader = go (ltb 0 n) refl (ltb (get_or keys 0 0) numbers) refl (thresholds-of-run T 0 (thresholds-first T).some_entry)
    where
      none-there : NoZero T (threshold_at T 0) → 0 < n → quotient_at keys 0 ≡ 0 → ⊥
      none-there z lt q =
          let o = key_step g 0 lt in
          let x = at_key g 0 in
          let same : EqualRatio x (threshold_at T 0) =
          same-quotient (key-fine g 0 lt)
          (fine-threshold 0 (thresholds-first T).some_entry)
          (sym (key-at g 0 lt).quotient ∙ (q ∙ sym first-quotient)) in
          z.no_reuse o.step o.before o.reuse
          (same-both x (ratio_at T o.step) (threshold_at T 0) zero_one o.exact z.is_zero same)

      some-there : Earliest T (steps T) (threshold_at T 0) → (0 < n) × (quotient_at keys 0 ≡ 0)
      some-there e =
          let key = key_of (threshold_at T 0) e in (
            omega (arith, key.within),
            omega (
              arith,
              key.quotient,
              first-quotient,
              quotients-rise g 0 key.at (omega arith) key.within,
            ),
          )

      go : (a : Bool) → ltb 0 n ≡ a → (b : Bool) → ltb (get_or keys 0 0) numbers ≡ b
          → NoZero T (threshold_at T 0) ⊎ Earliest T (steps T) (threshold_at T 0)
          → ratio 0 (cond (ltb 0 n && ltb (get_or keys 0 0) numbers) (get_or ws (get_or keys 0 0) 0) 1) ≡ threshold_at T 0
      go true e true f (inl z) =
          absurd (none-there z (ltb-true 0 n e) (omega (arith, ltb-true (get_or keys 0 0) numbers f)))
      go true e true f (inr y) =
          let lt = ltb-true 0 n e in
          let small = ltb-true (get_or keys 0 0) numbers f in
          let zero-quotient : quotient_at keys 0 ≡ 0 = omega arith in
          let number : reuse_at keys 0 ≡ get_or keys 0 0 = omega arith in
          let is =
          exact_key g (threshold_at T 0) y 0 lt (zero-quotient ∙ sym first-quotient)
          (λ k l. absurd (omega arith)) in
          rw (e, f, ← number)
          (zero-ratio (get_or rs (reuse_at keys 0) 0) (get_or ws (reuse_at keys 0) 0) (threshold_at T 0) is (thresholds-first T).zero_first)
      go true e false f (inl z) = rw (e, f) (sym z.is_zero)
      go true e false f (inr y) = absurd (omega (arith, (some-there y).1, ltb-false (get_or keys 0 0) numbers f))
      go false e b f (inl z) = rw e (sym z.is_zero)
      go false e b f (inr y) = absurd (omega (arith, (some-there y).0, ltb-false 0 n e))

  module _ (memory load : ℕ) where
    -- the walk has come to threshold `ended keys i`
    pub record Along (i : ℕ) : Type 0 where
      pub reached : Reached (ended keys i) i
      pub leads : leader rs ws keys memory load n i ≡ threshold_at T (ended keys i)

    along-start : Along 0
    unfolding ended leader
    along-start = record { reached = first-reached; leads = first-leader }

    along-step : (i : ℕ) → i < n → Along i → Along (suc i)
    unfolding leader before_at
    along-step i lt v =
        cases (eqb (quotient_at keys i) (before_at keys i))
        (λ e.
        let same = eqb-true (quotient_at keys i) (before_at keys i) e in
        record {
          reached =
              rw (ended_same keys i same) (record { there = v.reached.there; quotient = v.reached.quotient ∙ sym same });
          leads = rw (e, ended_same keys i same) v.leads;
        })
        (λ e.
        let ne = eqb-false (quotient_at keys i) (before_at keys i) e in
        let up : before_at keys i < quotient_at keys i = omega (arith, before-rises i lt) in
        record {
          reached = rw (ended-new keys i ne) (next_reached (ended keys i) i v.reached lt up);
          leads = rw (e, ended-new keys i ne) (sym (next_threshold (ended keys i) i v.reached lt up));
        })

    pub along : (i : ℕ) → i ≤ n → Along i
    along zero le = along-start
    along (suc i) le = along-step i le (along i (omega arith))

    -- so there are as many points as thresholds
    pub points-count : length (thresholds T) ≡ suc (ended keys n)
    points-count = last_threshold (ended keys n) n (along n (omega arith)).reached (omega arith) (omega arith)
