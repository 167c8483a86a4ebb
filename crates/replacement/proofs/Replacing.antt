-- The least recently used goes, in every run in which no segment counts as touched before step 1.
use Prim.Native.Nat.{ℕ, zero, suc, ◌+◌, ◌≤◌, ◌<◌}
use mathlib.Core.Path.{◌≡◌, refl, sym, ap, ◌∙◌}
use mathlib.Core.Bool.{Bool, true, false, cond, ◌&&◌, false≢true}
use mathlib.Core.Option.{Option, none, some}
use native.Mathlib.Omega.{arith}
use lib.Dec.{eqb, ltb}
use lib.ListN.{length, get_or, take, length-take}
use lib.Seq.{length-take-le}
use borrow.Author.Tests.{lt-ltb, ltb-true, ltb-false, eqb-true, eqb-false, eq-eqb}
use Rattle.model.specs.Figures.{is_reuse}
use Rattle.model.specs.Traces.{Trace, segs, entry, touched, later, unreferenced}
use Rattle.model.proofs.LastTouches.{later-some}
use Rattle.model.proofs.Touches.{unreferenced-none, unreferenced-touched, unreferenced-later, touched-below, entry-touched}
use Rattle.replacement.specs.ByTime.{sooner, more_recent, newer_than, among_recent}
use Rattle.replacement.specs.Memory.{has}
use Rattle.replacement.specs.Orders.{place_of}
use Rattle.replacement.specs.Recency.{recency}
use Rattle.replacement.specs.Replacing.{Goes, FullMiss, LeastRecentGoes}
use Rattle.replacement.proofs.Ordered.{ordered, inclusion}
use Rattle.replacement.proofs.Bounds.{recency-on}
use Rattle.replacement.proofs.ByTime.{newer, newer-lt, newer-on, newer-off, newer-none, place-by-time, held-by-time}
use Rattle.replacement.proofs.Once.{once-recency, has-up-to, not-before}
use Rattle.replacement.proofs.Orders.{looked-within, miss-take}
use Rattle.replacement.proofs.Touches.{cond-within, touched-on, touched-off}

-- a time is not none
pub timed : {X : Type 0} {m : ℕ} → ◌≡◌ {A = Option ℕ} none (some m) → X
timed e = let z : ◌≡◌ {A = ℕ} 0 1 = cc in absurd (omega arith)

-- of two times at most one is less than the other
pub sooner-one : (o p : Option ℕ) → sooner o p ≡ true → sooner p o ≡ true → ⊥
unfolding sooner
sooner-one none p e f = false≢true e
sooner-one (some m) none e f = false≢true f
sooner-one (some m) (some k) e f = absurd (omega (arith, ltb-true m k e, ltb-true k m f))

-- the memory has a segment of this time, and has not
held-of : (T : Trace) (k t : ℕ) (o : Option ℕ) → is_reuse o && ltb (newer T t o) k ≡ true
    → (m : ℕ) × (o ≡ some m) × (newer T t (some m) < k)
held-of T k t none e = absurd (false≢true e)
held-of T k t (some m) e = (m, refl, ltb-true (newer T t (some m)) k e)

module _ (T : Trace) (fresh : (i : ℕ) → T.start i ≡ false) where
  pub held-time : (k t i : ℕ) → has i (ordered T k t) ≡ true → (m : ℕ) × (unreferenced T t i ≡ some m) × (newer T t (some m) < k)
  unfolding among_recent newer_than
  held-time k t i h = held-of T k t (unreferenced T t i) (sym (held-by-time T fresh k t i) ∙ h)

  time-held : (k t i m : ℕ) → unreferenced T t i ≡ some m → newer T t (some m) < k → has i (ordered T k t) ≡ true
  unfolding among_recent newer_than
  time-held k t i m e lt = held-by-time T fresh k t i ∙ rw (e, lt-ltb (newer T t (some m)) k lt)

  -- what has a time is a segment, and no two segments have the same time
  time-below : (t i m : ℕ) → unreferenced T t i ≡ some m → i < segs T
  time-below zero i m e = timed (sym (rw (fresh i) at (unreferenced-none T i)) ∙ e)
  time-below (suc t) i m e = go (touched T t i) refl (time-below t i)
    where
      go : (b : Bool) → touched T t i ≡ b → ((n : ℕ) → unreferenced T t i ≡ some n → i < segs T) → i < segs T
      go true on below = touched-below T t i on
      go false off below =
          let found = later-some (unreferenced T t i) m (sym (unreferenced-later T t i off) ∙ e) in
          below found.0 found.1

  same-time : (t i j m : ℕ) → unreferenced T t i ≡ some m → unreferenced T t j ≡ some m → i ≡ j
  same-time zero i j m e f = timed (sym (rw (fresh i) at (unreferenced-none T i)) ∙ e)
  same-time (suc t) i j m e f = go (touched T t i) refl (touched T t j) refl (same-time t i j)
    where
      first : (x : ℕ) → touched T t x ≡ true → unreferenced T (suc t) x ≡ some m → m ≡ 0
      first x on time = let z : ◌≡◌ {A = Option ℕ} (some 0) (some m) = sym (unreferenced-touched T t x on) ∙ time in cc

      before : (x : ℕ) → touched T t x ≡ false → unreferenced T (suc t) x ≡ some m
          → (n : ℕ) × (unreferenced T t x ≡ some n) × (m ≡ suc n)
      before x off time = later-some (unreferenced T t x) m (sym (unreferenced-later T t x off) ∙ time)

      go : (b : Bool) → touched T t i ≡ b → (c : Bool) → touched T t j ≡ c
          → ((n : ℕ) → unreferenced T t i ≡ some n → unreferenced T t j ≡ some n → i ≡ j) → i ≡ j
      go true a true b ih = sym (entry-touched T t i a) ∙ entry-touched T t j b
      go true a false b ih = absurd (omega (arith, first i a e, (before j b f).2))
      go false a true b ih = absurd (omega (arith, first j b f, (before i a e).2))
      go false a false b ih =
          let x = before i a e in
          let y = before j b f in
          let same : y.0 ≡ x.0 = omega (arith, x.2, y.2) in
          ih x.0 x.1 (y.1 ∙ ap (λ n. some n) same)

  -- what is known of a segment that goes: it has the last frame, and the one touched is another, not more recent
  record Going (k t i : ℕ) : Type 0 where
    time : ℕ
    time_is : unreferenced T t i ≡ some time
    last : suc (newer T t (some time)) ≡ k
    touches : entry T t < segs T
    other : eqb (entry T t) i ≡ false
    older : sooner (unreferenced T t (entry T t)) (some time) ≡ false

  kept-after : {X : Type 0} (k t i m : ℕ) → Goes (ordered T k) t i → unreferenced T (suc t) i ≡ some m → newer T (suc t) (some m) < k → X
  kept-after k t i m g e lt = absurd (false≢true (sym g.after ∙ time-held k (suc t) i m e lt))

  going : (k t i : ℕ) → Goes (ordered T k) t i → Going k t i
  unfolding later
  going k t i g =
      let h = held-time k t i g.before in
      go h.0 h.1 h.2 (ltb (entry T t) (segs T)) refl (eqb (entry T t) i) refl
    where
      aged : (m : ℕ) → unreferenced T t i ≡ some m → touched T t i ≡ false → unreferenced T (suc t) i ≡ some (suc m)
      aged m e off = unreferenced-later T t i off ∙ ap later e

      split : (m : ℕ) → unreferenced T t i ≡ some m → newer T t (some m) < k → entry T t < segs T → eqb (entry T t) i ≡ false
          → (b : Bool) → sooner (unreferenced T t (entry T t)) (some m) ≡ b
          → newer T (suc t) (some (suc m)) + cond (sooner (unreferenced T t (entry T t)) (some m)) 1 0 ≡ suc (newer T t (some m))
          → Going k t i
      split m e lt on other true s n =
          kept-after k t i (suc m) g (aged m e (touched-on T t i on ∙ other)) (omega (arith, rw s at n))
      split m e lt on other false s n =
          record {
            time = m;
            time_is = e;
            last = full (ltb (newer T (suc t) (some (suc m))) k) refl;
            touches = on;
            other = other;
            older = s;
          }
        where
          full : (b : Bool) → ltb (newer T (suc t) (some (suc m))) k ≡ b → suc (newer T t (some m)) ≡ k
          full true l = kept-after k t i (suc m) g (aged m e (touched-on T t i on ∙ other)) (ltb-true (newer T (suc t) (some (suc m))) k l)
          full false l = omega (arith, rw s at n, ltb-false (newer T (suc t) (some (suc m))) k l)

      go : (m : ℕ) → unreferenced T t i ≡ some m → newer T t (some m) < k → (b : Bool) → ltb (entry T t) (segs T) ≡ b
          → (c : Bool) → eqb (entry T t) i ≡ c → Going k t i
      go m e lt false b c x =
          let off = ltb-false (entry T t) (segs T) b in
          kept-after k t i (suc m) g (aged m e (touched-off T t i off)) (omega (arith, newer-off T t m off))
      go m e lt true b true x =
          let on = ltb-true (entry T t) (segs T) b in
          kept-after k t i 0 g (unreferenced-touched T t i (touched-on T t i on ∙ x)) (omega (arith, newer-none T (suc t)))
      go m e lt true b false x =
          let on = ltb-true (entry T t) (segs T) b in
          split m e lt on x (sooner (unreferenced T t (entry T t)) (some m)) refl (newer-on T t m on)

  -- every other one in the memory is more recent
  least-recent : (k t i j : ℕ) → Goes (ordered T k) t i → has j (ordered T k t) ≡ true → (j ≡ i → ⊥) → more_recent T t j i ≡ true
  unfolding sooner
  least-recent k t i j g h other =
      let w = going k t i g in
      let v = held-time k t j h in
      rw (w.time_is, v.1) (go w.time w.time_is w.last v.0 v.1 v.2 (ltb v.0 w.time) refl)
    where
      go : (m : ℕ) → unreferenced T t i ≡ some m → suc (newer T t (some m)) ≡ k
          → (n : ℕ) → unreferenced T t j ≡ some n → newer T t (some n) < k → (b : Bool) → ltb n m ≡ b → ltb n m ≡ true
      go m e last n f lt true l = l
      go m e last n f lt false l = at (eqb m n) refl
        where
          at : (b : Bool) → eqb m n ≡ b → ltb n m ≡ true
          at true s = absurd (other (sym (same-time t i j m e (f ∙ ap (λ p. some p) (sym (eqb-true m n s))))))
          at false s =
              let ne = eqb-false m n s in
              let less : m < n = omega (arith, ltb-false n m l) in
              absurd (omega (arith, newer-lt T t i m n (time-below t i m e) e less))

  others_stay : (k t i j : ℕ) → Goes (ordered T k) t i → has j (ordered T k t) ≡ true → (j ≡ i → ⊥) → has j (ordered T k (suc t)) ≡ true
  others_stay k t i j g h other = go (has j (ordered T k (suc t))) refl
    where
      go : (b : Bool) → has j (ordered T k (suc t)) ≡ b → has j (ordered T k (suc t)) ≡ true
      go true e = e
      go false e =
          let back = least-recent k t j i (record { before = h; after = e }) g.before (λ same. other (sym same)) in
          absurd (sooner-one (unreferenced T t j) (unreferenced T t i) (least-recent k t i j g h other) back)

  -- a segment goes only where a full memory misses
  goes_only : (k t i : ℕ) → Goes (ordered T k) t i → FullMiss T (ordered T k) k t
  unfolding sooner
  goes_only k t i g =
      let w = going k t i g in
      record {
        some_frame = omega (arith, w.last);
        touches = w.touches;
        misses = missed (has (entry T t) (ordered T k t)) refl w;
        full = rw (inclusion T k t) (length-take-le k (recency T t) (long w));
      }
    where
      missed : (b : Bool) → has (entry T t) (ordered T k t) ≡ b → Going k t i → has (entry T t) (ordered T k t) ≡ false
      missed false e w = e
      missed true e w =
          let newer-one = least-recent k t i (entry T t) g e (λ same. false≢true (sym w.other ∙ eq-eqb (entry T t) i same)) in
          absurd (false≢true (sym w.older ∙ (sym (ap (λ o. sooner (unreferenced T t (entry T t)) o) w.time_is) ∙ newer-one)))

      long : Going k t i → k ≤ length (recency T t)
      long w =
          let place : place_of i (recency T t) ≡ some (suc (newer T t (some w.time))) =
          rw (place-by-time T fresh t i, w.time_is) in
          omega (arith, w.last, rw place at (looked-within i (recency T t)))

  -- where a full memory misses, the last of the list's first k goes
  long-list : (k t : ℕ) → FullMiss T (ordered T k) k t → k ≤ length (recency T t)
  long-list k t miss =
      omega (arith, miss.full, ap length (inclusion T k t), length-take k (recency T t))

  last_goes : (k t : ℕ) → FullMiss T (ordered T (suc k)) (suc k) t → Goes (ordered T (suc k)) t (get_or (recency T t) k 0)
  unfolding has
  last_goes k t miss = record { before = before; after = after }
    where
      before : has (get_or (recency T t) k 0) (ordered T (suc k) t) ≡ true
      before = rw (inclusion T (suc k) t) (has-up-to k (recency T t) (omega (arith, long-list (suc k) t miss)))

      out : has (entry T t) (take (suc k) (recency T t)) ≡ false
      out = rw (← inclusion T (suc k) t) miss.misses

      other : (b : Bool) → eqb (entry T t) (get_or (recency T t) k 0) ≡ b → eqb (entry T t) (get_or (recency T t) k 0) ≡ false
      other false e = e
      other true e =
          absurd (false≢true (sym miss.misses
          ∙ (ap (λ x. has x (ordered T (suc k) t)) (eqb-true (entry T t) (get_or (recency T t) k 0) e) ∙ before)))

      after : has (get_or (recency T t) k 0) (ordered T (suc k) (suc t)) ≡ false
      after =
          rw (
            inclusion T (suc k) (suc t),
            recency-on T t miss.touches,
            other (eqb (entry T t) (get_or (recency T t) k 0)) refl,
            miss-take k (entry T t) (recency T t) out,
          )
          (not-before k (recency T t) (once-recency T t) (omega (arith, long-list (suc k) t miss)))

  one_goes : (k t : ℕ) → FullMiss T (ordered T k) k t → (i : ℕ) × Goes (ordered T k) t i
  one_goes zero t miss = absurd (omega (arith, miss.some_frame))
  one_goes (suc k) t miss = (get_or (recency T t) k 0, last_goes k t miss)

  -- the one touched enters, and no other
  enters : (k t i : ℕ) → 1 ≤ k → touched T t i ≡ true → has i (ordered T k (suc t)) ≡ true
  enters k t i some_frame on = time-held k (suc t) i 0 (unreferenced-touched T t i on) (omega (arith, newer-none T (suc t)))

  only_touched : (k t i : ℕ) → has i (ordered T k t) ≡ false → has i (ordered T k (suc t)) ≡ true → touched T t i ≡ true
  only_touched k t i out in-it = go (touched T t i) refl
    where
      grows : (m : ℕ) → (b : Bool) → ltb (entry T t) (segs T) ≡ b → newer T t (some m) ≤ newer T (suc t) (some (suc m))
      grows m true e =
          let on = newer-on T t m (ltb-true (entry T t) (segs T) e) in
          let one = cond-within (sooner (unreferenced T t (entry T t)) (some m)) 1 0 1 (omega arith) (omega arith) in
          omega (arith, on, one)
      grows m false e = omega (arith, newer-off T t m (ltb-false (entry T t) (segs T) e))

      go : (b : Bool) → touched T t i ≡ b → touched T t i ≡ true
      go true e = e
      go false e =
          let h = held-time k (suc t) i in-it in
          let was = later-some (unreferenced T t i) h.0 (sym (unreferenced-later T t i e) ∙ h.1) in
          let now : newer T (suc t) (some (suc was.0)) < k = rw (← was.2) h.2 in
          absurd (false≢true (sym out ∙ time-held k t i was.0 was.1
          (omega (arith, now, grows was.0 (ltb (entry T t) (segs T)) refl))))

  pub least_recent_goes : (k t : ℕ) → LeastRecentGoes T (ordered T k) k t
  least_recent_goes k t =
      record {
        one_goes = one_goes k t;
        goes_only = goes_only k t;
        least-recent = least-recent k t;
        others_stay = others_stay k t;
        enters = enters k t;
        only_touched = only_touched k t;
      }
