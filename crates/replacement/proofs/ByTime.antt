-- The stack distance is the one by time, and the memory of k frames has the k most recently touched segments, in every run in which none
-- counts as touched before step 1.
use Prim.Native.Nat.{ℕ, zero, suc, pred, ◌+◌, ◌≤◌, ◌<◌}
use mathlib.Core.Path.{◌≡◌, refl, sym, ap, ◌∙◌}
use mathlib.Core.Bool.{Bool, true, false, cond, ◌&&◌, false≢true}
use mathlib.Core.List.{List, [], ◌∷◌}
use mathlib.Core.Option.{Option, none, some}
use native.Mathlib.Omega.{arith}
use lib.Dec.{eqb, ltb}
use lib.ListN.{take}
use borrow.Author.Tests.{lt-ltb, le-ltb, ltb-true, ltb-false, eqb-true}
use Rattle.model.specs.Figures.{is_reuse}
use Rattle.model.specs.Traces.{Trace, segs, entry, over_segments, later, unreferenced}
use Rattle.model.proofs.Sums.{sum-le, sum_lt, sum-eq, sum-add, sum-at, sum-zero}
use Rattle.model.proofs.Touches.{unreferenced-none, unreferenced-touched, unreferenced-later}
use Rattle.replacement.specs.Memory.{has}
use Rattle.replacement.specs.Orders.{place_of, without}
use Rattle.replacement.specs.Recency.{recency, distance, miss_beyond}
use Rattle.replacement.specs.ByTime.{sooner, newer_than, time_distance, among_recent}
use Rattle.replacement.proofs.Ordered.{ordered, inclusion}
use Rattle.replacement.proofs.Bounds.{recency-on, recency-off}
use Rattle.replacement.proofs.Orders.{miss-has}
use Rattle.replacement.proofs.Touches.{touched-on, touched-off}

-- ---- times

ltb-suc : (m k : ℕ) → ltb (suc m) (suc k) ≡ ltb m k
ltb-suc m k = go (ltb m k) refl
  where
    go : (b : Bool) → ltb m k ≡ b → ltb (suc m) (suc k) ≡ ltb m k
    go true e = rw (e, lt-ltb (suc m) (suc k) (omega (arith, ltb-true m k e)))
    go false e = rw (e, le-ltb (suc m) (suc k) (omega (arith, ltb-false m k e)))

-- a step more for both leaves their order
sooner-later : (o : Option ℕ) (k : ℕ) → sooner (later o) (some (suc k)) ≡ sooner o (some k)
unfolding sooner later
sooner-later none k = refl
sooner-later (some m) k = ltb-suc m k

-- no time is less than 0
none-sooner : (o : Option ℕ) → sooner o (some 0) ≡ false
unfolding sooner
none-sooner none = refl
none-sooner (some m) = le-ltb m 0 (omega arith)

-- what is sooner than the lesser of two times is sooner than the other
sooner-le : (o : Option ℕ) (m k : ℕ) → m ≤ k → ◌≤◌ (cond (sooner o (some m)) 1 0) (cond (sooner o (some k)) 1 0)
unfolding sooner
sooner-le none m k le = omega arith
sooner-le (some j) m k le = go (ltb j m) refl
  where
    go : (b : Bool) → ltb j m ≡ b → ◌≤◌ (cond (ltb j m) 1 0) (cond (ltb j k) 1 0)
    go true e = rw (e, lt-ltb j k (omega (arith, ltb-true j m e))) (omega arith)
    go false e = rw e (omega arith)

-- ---- places

-- the place of another once x is taken out: one less where x stood before it
abbrev moved : Option ℕ → Option ℕ → Option ℕ
moved q none = none
moved none (some p) = some p
moved (some q) (some p) = some (cond (ltb q p) (pred p) p)

moved_later : (o p : Option ℕ) → later (moved o p) ≡ moved (later o) (later p)
unfolding later
moved_later none none = refl
moved_later (some q) none = refl
moved_later none (some p) = refl
moved_later (some q) (some p) = go (ltb q p) refl
  where
    go : (b : Bool) → ltb q p ≡ b
        → ◌≡◌ {A = Option ℕ} (some (suc (cond (ltb q p) (pred p) p))) (some (cond (ltb (suc q) (suc p)) p (suc p)))
    go true e =
        let lt = ltb-true q p e in
        let same : suc (pred p) ≡ p = omega arith in
        rw (ltb-suc q p, e, same)
    go false e = rw (ltb-suc q p, e)

moved-first : (o : Option ℕ) → moved (later o) (some 1) ≡ some 1
unfolding later
moved-first none = refl
moved-first (some q) = rw (le-ltb (suc q) 1 (omega arith))

-- places are counted from 1
moved-past : (x : ℕ) (l : List ℕ) → moved (some 1) (later (place_of x l)) ≡ place_of x l
unfolding place_of later
moved-past x [] = refl
moved-past x (y ∷ ys) = go (eqb y x) refl (place_of x ys)
  where
    go : (b : Bool) → eqb y x ≡ b → (o : Option ℕ)
        → moved (some 1) (later (cond (eqb y x) (some 1) (later o))) ≡ cond (eqb y x) (some 1) (later o)
    go true e o = rw e
    go false e none = rw e
    go false e (some p) = rw (e, lt-ltb 1 (suc (suc p)) (omega arith))

place-without : (i x : ℕ) (l : List ℕ) → eqb x i ≡ false → place_of i (without x l) ≡ moved (place_of x l) (place_of i l)
unfolding place_of without
place-without i x [] other = refl
place-without i x (y ∷ ys) other = go (eqb y x) refl (eqb y i) refl (place-without i x ys other)
  where
    go : (b : Bool) → eqb y x ≡ b → (c : Bool) → eqb y i ≡ c → place_of i (without x ys) ≡ moved (place_of x ys) (place_of i ys)
        → place_of i (cond (eqb y x) ys (y ∷ without x ys))
        ≡ moved (cond (eqb y x) (some 1) (later (place_of x ys))) (cond (eqb y i) (some 1) (later (place_of i ys)))
    go true b true c ih = absurd (false≢true (sym other ∙ (ap (λ z. eqb z i) (sym (eqb-true y x b)) ∙ c)))
    go true b false c ih = rw (b, c) (sym (moved-past i ys))
    go false b true c ih = rw (b, c) (sym (moved-first (place_of x ys)))
    go false b false c ih = rw (b, c, ih) (moved_later (place_of x ys) (place_of i ys))

-- what is missed, and what is not
missed-none : (b : Bool) → ◌≡◌ {A = ℕ} (cond b 0 1) 1 → b ≡ false
missed-none true e = absurd (omega (arith, e))
missed-none false e = refl

missed : (b : Bool) (k n : ℕ) → ◌≡◌ {A = ℕ} (cond b 0 1) (cond (ltb k (suc n)) 1 0) → b ≡ ltb n k
missed b k n e = go b (ltb k (suc n)) refl e
  where
    go : (b c : Bool) → ltb k (suc n) ≡ c → ◌≡◌ {A = ℕ} (cond b 0 1) (cond (ltb k (suc n)) 1 0) → b ≡ ltb n k
    go true true l e = absurd (omega (arith, rw l at e))
    go true false l e = sym (lt-ltb n k (omega (arith, ltb-false k (suc n) l)))
    go false true l e = sym (le-ltb n k (omega (arith, ltb-true k (suc n) l)))
    go false false l e = absurd (omega (arith, rw l at e))

-- ---- how many are newer

module _ (T : Trace) where
  -- 1 where segment j has a time less than o after t steps
  abbrev is_newer : ℕ → Option ℕ → ℕ → ℕ
  is_newer t o j = cond (sooner (unreferenced T t j) o) 1 0

  -- how many have
  abbrev pub newer : ℕ → Option ℕ → ℕ
  newer t o = over_segments T (is_newer t o)

  pub newer-le : (t m k : ℕ) → m ≤ k → newer t (some m) ≤ newer t (some k)
  newer-le t m k le =
      sum-le (segs T) (is_newer t (some m)) (is_newer t (some k)) (λ j lt. sooner-le (unreferenced T t j) m k le)

  -- a segment of the lesser time is newer itself
  pub newer-lt : (t x m k : ℕ) → x < segs T → unreferenced T t x ≡ some m → m < k → newer t (some m) < newer t (some k)
  unfolding sooner
  newer-lt t x m k below time lt =
      sum_lt (segs T) x (is_newer t (some m)) (is_newer t (some k)) below (λ j l. sooner-le (unreferenced T t j) m k (omega arith))
      (rw (time, le-ltb m m (omega arith), lt-ltb m k lt) (omega arith))

  -- a touch of x makes x newer than what is older than it
  pub newer-on : (t k : ℕ) → entry T t < segs T
      → newer (suc t) (some (suc k)) + is_newer t (some k) (entry T t) ≡ suc (newer t (some k))
  unfolding sooner
  newer-on t k on =
      let x = entry T t in
      let now = is_newer (suc t) (some (suc k)) in
      let was = is_newer t (some k) in
      let here : cond (ltb x (segs T)) (was x) 0 ≡ was x = rw (lt-ltb x (segs T) on) in
      let one : ◌≡◌ {A = ℕ} (cond (ltb x (segs T)) 1 0) 1 = rw (lt-ltb x (segs T) on) in
      omega (
        arith,
        here,
        one,
        sum-add (segs T) now (λ j. cond (eqb x j) (was j) 0),
        sum-add (segs T) was (λ j. cond (eqb x j) 1 0),
        sum-at (segs T) x was,
        sum-at (segs T) x (λ j. 1),
        sum-eq (segs T) (λ j. now j + cond (eqb x j) (was j) 0) (λ j. was j + cond (eqb x j) 1 0) (λ j lt. each j (eqb x j) refl),
      )
    where
      each : (j : ℕ) (b : Bool) → eqb (entry T t) j ≡ b
          → is_newer (suc t) (some (suc k)) j + cond (eqb (entry T t) j) (is_newer t (some k) j) 0
          ≡ is_newer t (some k) j + cond (eqb (entry T t) j) 1 0
      each j true e =
          rw (unreferenced-touched T t j (touched-on T t j on ∙ e), e, lt-ltb 0 (suc k) (omega arith)) (omega arith)
      each j false e = rw (unreferenced-later T t j (touched-on T t j on ∙ e), e, sooner-later (unreferenced T t j) k)

  -- an idle step changes no order
  pub newer-off : (t k : ℕ) → segs T ≤ entry T t → newer (suc t) (some (suc k)) ≡ newer t (some k)
  newer-off t k off =
      sum-eq (segs T) (is_newer (suc t) (some (suc k))) (is_newer t (some k))
      (λ j lt. rw (unreferenced-later T t j (touched-off T t j off), sooner-later (unreferenced T t j) k))

  -- right after its touch nothing is newer
  pub newer-none : (t : ℕ) → newer t (some 0) ≡ 0
  newer-none t = sum-zero (segs T) (is_newer t (some 0)) (λ j lt. rw (none-sooner (unreferenced T t j)))

  -- ---- the distance by time

  -- as it is by cases of the time
  abbrev pub by_time : ℕ → Option ℕ → Option ℕ
  by_time t none = none
  by_time t (some k) = some (suc (newer t (some k)))

  pub time-distance : (t i : ℕ) → time_distance T t i ≡ by_time t (unreferenced T t i)
  unfolding time_distance newer_than
  time-distance t i = go (unreferenced T t i)
    where
      go : (o : Option ℕ) → cond (is_reuse o) (some (suc (newer t o))) none ≡ by_time t o
      go none = refl
      go (some k) = refl

  -- a touch of x moves another one back by one place where it was before x, and leaves it where it was behind
  moved_on_lem : (t k : ℕ) → entry T t < segs T
      → later (moved (by_time t (unreferenced T t (entry T t))) (by_time t (some k))) ≡ by_time (suc t) (some (suc k))
  unfolding later sooner
  moved_on_lem t k on = go (unreferenced T t (entry T t)) refl (newer-on t k on)
    where
      split : (m : ℕ) (b : Bool) → ltb m k ≡ b → unreferenced T t (entry T t) ≡ some m
          → newer (suc t) (some (suc k)) + cond (ltb m k) 1 0 ≡ suc (newer t (some k))
          → suc (cond (ltb (suc (newer t (some m))) (suc (newer t (some k)))) (newer t (some k)) (suc (newer t (some k))))
          ≡ suc (newer (suc t) (some (suc k)))
      split m true b e n =
          let lt = newer-lt t (entry T t) m k on e (ltb-true m k b) in
          rw (lt-ltb (suc (newer t (some m))) (suc (newer t (some k))) (omega arith)) (omega (arith, rw b at n))
      split m false b e n =
          let le = newer-le t k m (ltb-false m k b) in
          rw (le-ltb (suc (newer t (some m))) (suc (newer t (some k))) (omega arith)) (omega (arith, rw b at n))

      go : (o : Option ℕ) → unreferenced T t (entry T t) ≡ o
          → newer (suc t) (some (suc k)) + cond (sooner (unreferenced T t (entry T t)) (some k)) 1 0 ≡ suc (newer t (some k))
          → later (moved (by_time t o) (by_time t (some k))) ≡ by_time (suc t) (some (suc k))
      go none e n = ap (λ p. some p) (omega (arith, rw e at n))
      go (some m) e n = ap (λ p. some p) (split m (ltb m k) refl e (rw e at n))

  -- one step of the list: a touch, and an idle step
  after-other : (t i : ℕ) → entry T t < segs T → (o : Option ℕ) → place_of i (recency T t) ≡ by_time t o
      → place_of (entry T t) (recency T t) ≡ by_time t (unreferenced T t (entry T t)) → eqb (entry T t) i ≡ false
      → later (place_of i (without (entry T t) (recency T t))) ≡ by_time (suc t) (later o)
  unfolding later
  after-other t i on none here there other = rw (place-without i (entry T t) (recency T t) other, here)
  after-other t i on (some k) here there other =
      rw (place-without i (entry T t) (recency T t) other, here, there) (moved_on_lem t k on)

  after-touch : (t i : ℕ) → entry T t < segs T → place_of i (recency T t) ≡ by_time t (unreferenced T t i)
      → place_of (entry T t) (recency T t) ≡ by_time t (unreferenced T t (entry T t))
      → place_of i (recency T (suc t)) ≡ by_time (suc t) (unreferenced T (suc t) i)
  unfolding place_of
  after-touch t i on here there = rw (recency-on T t on) (go (eqb (entry T t) i) refl)
    where
      go : (b : Bool) → eqb (entry T t) i ≡ b
          → cond (eqb (entry T t) i) (some 1) (later (place_of i (without (entry T t) (recency T t))))
          ≡ by_time (suc t) (unreferenced T (suc t) i)
      go true e = rw (e, unreferenced-touched T t i (touched-on T t i on ∙ e), newer-none (suc t))
      go false e =
          rw (e, unreferenced-later T t i (touched-on T t i on ∙ e)) (after-other t i on (unreferenced T t i) here there e)

  after-idle : (t i : ℕ) → segs T ≤ entry T t → (o : Option ℕ) → by_time t o ≡ by_time (suc t) (later o)
  unfolding later
  after-idle t i off none = refl
  after-idle t i off (some k) = rw (newer-off t k off)

  module _ (fresh : (i : ℕ) → T.start i ≡ false) where
    -- the place in the list is the distance by time
    pub place-by-time : (t i : ℕ) → place_of i (recency T t) ≡ by_time t (unreferenced T t i)
    unfolding recency place_of
    place-by-time zero i = rw (unreferenced-none T i, fresh i)
    place-by-time (suc t) i = go (ltb (entry T t) (segs T)) refl (place-by-time t i) (place-by-time t (entry T t))
      where
        go : (b : Bool) → ltb (entry T t) (segs T) ≡ b → place_of i (recency T t) ≡ by_time t (unreferenced T t i)
            → place_of (entry T t) (recency T t) ≡ by_time t (unreferenced T t (entry T t))
            → place_of i (recency T (suc t)) ≡ by_time (suc t) (unreferenced T (suc t) i)
        go true e here there = after-touch t i (ltb-true (entry T t) (segs T) e) here there
        go false e here there =
            let off = ltb-false (entry T t) (segs T) e in
            rw (recency-off T t off, unreferenced-later T t i (touched-off T t i off))
            (here ∙ after-idle t i off (unreferenced T t i))

    pub distance-by-time : (t i : ℕ) → distance T t i ≡ time_distance T t i
    unfolding distance
    distance-by-time t i = place-by-time t i ∙ sym (time-distance t i)

    -- the memory has the most recent ones
    pub held-by-time : (k t i : ℕ) → has i (ordered T k t) ≡ among_recent T k t i
    unfolding among_recent newer_than
    held-by-time k t i =
        rw (inclusion T k t)
        (go (unreferenced T t i) (sym (miss-has k i (recency T t)) ∙ ap (λ o. miss_beyond k o) (place-by-time t i)))
      where
        go : (o : Option ℕ) → cond (has i (take k (recency T t))) 0 1 ≡ miss_beyond k (by_time t o)
            → has i (take k (recency T t)) ≡ is_reuse o && ltb (newer t o) k
        go none e = missed-none (has i (take k (recency T t))) e
        go (some m) e = missed (has i (take k (recency T t))) k (newer t (some m)) e
