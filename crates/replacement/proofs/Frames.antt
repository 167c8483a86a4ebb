-- The memory with no order among its frames has the segments of the one that is kept in the order of last touches, and as many.
use Prim.Native.Nat.{ℕ, zero, suc, min, ◌≤◌, ◌<◌}
use mathlib.Core.Path.{◌≡◌, refl, sym, ap, ◌∙◌}
use mathlib.Core.Logic.{◌⊎◌, inl, inr, ⊎_elim}
use mathlib.Core.Bool.{Bool, true, false, cond, ◌||◌, false≢true}
use mathlib.Core.List.{List, [], ◌∷◌}
use mathlib.Core.Option.{some}
use native.Mathlib.Omega.{arith}
use lib.Dec.{eqb, ltb}
use lib.ListN.{length, length-take}
use borrow.Author.Tests.{lt-ltb, le-ltb, ltb-true, ltb-false, eqb-true, eqb-false, eq-eqb}
use Rattle.model.specs.Traces.{Trace, segs, entry, touched, over_touches, later, unreferenced}
use Rattle.model.proofs.LastTouches.{later-some}
use Rattle.model.proofs.Loads.{over_touches-eq}
use Rattle.replacement.specs.ByTime.{more_recent}
use Rattle.replacement.specs.Memory.{has, least_recent, replaced, swapped, reloaded, memory, lru_simulated}
use Rattle.replacement.specs.Replacing.{Goes, FullMiss, LeastRecentGoes}
use Rattle.replacement.specs.Recency.{recency}
use Rattle.replacement.proofs.Ordered.{reordered, ordered, inclusion}
use Rattle.replacement.proofs.Orders.{length_front}
use Rattle.replacement.proofs.Replacing.{least_recent_goes, sooner-one, timed, held-time}
use Rattle.replacement.proofs.Touches.{touched-on}

-- ---- a frame that gets another segment

has_new : (v x : ℕ) (m : List ℕ) → has v m ≡ true → has x (replaced v x m) ≡ true
unfolding has replaced
has_new v x [] h = h
has_new v x (z ∷ zs) h = go (eqb z v) refl (has_new v x zs)
  where
    go : (b : Bool) → eqb z v ≡ b → (has v zs ≡ true → has x (replaced v x zs) ≡ true)
        → eqb (cond (eqb z v) x z) x || has x (replaced v x zs) ≡ true
    go true e ih = rw (e, eq-eqb x x refl)
    go false e ih = rw (e, ih (rw e at h)) (either (eqb z x))
      where
        either : (b : Bool) → b || true ≡ true
        either true = refl
        either false = refl

has-old : (v x : ℕ) (m : List ℕ) → eqb x v ≡ false → has v (replaced v x m) ≡ false
unfolding has replaced
has-old v x [] other = refl
has-old v x (z ∷ zs) other = go (eqb z v) refl (has-old v x zs other)
  where
    go : (b : Bool) → eqb z v ≡ b → has v (replaced v x zs) ≡ false → eqb (cond (eqb z v) x z) v || has v (replaced v x zs) ≡ false
    go true e ih = rw (e, other, ih)
    go false e ih = rw (e, e, ih)

has-others : (v x i : ℕ) (m : List ℕ) → eqb x i ≡ false → eqb v i ≡ false → has i (replaced v x m) ≡ has i m
unfolding has replaced
has-others v x i [] new old = refl
has-others v x i (z ∷ zs) new old = go (eqb z v) refl (has-others v x i zs new old)
  where
    go : (b : Bool) → eqb z v ≡ b → has i (replaced v x zs) ≡ has i zs
        → eqb (cond (eqb z v) x z) i || has i (replaced v x zs) ≡ eqb z i || has i zs
    go true e ih = rw (e, new, ih, eqb-true z v e, old)
    go false e ih = rw (e, ih)

length-replaced : (v x : ℕ) (m : List ℕ) → length (replaced v x m) ≡ length m
unfolding replaced
length-replaced v x [] = refl
length-replaced v x (z ∷ zs) = ap suc (length-replaced v x zs)

-- ---- the least recently touched

-- what the list has stays had with one more
had-later : (y z i : ℕ) (l : List ℕ) → has i (y ∷ l) ≡ true → has i (y ∷ z ∷ l) ≡ true
unfolding has
had-later y z i l h = go (eqb y i) (eqb z i) h
  where
    go : (a b : Bool) → a || has i l ≡ true → a || (b || has i l) ≡ true
    go true b h = refl
    go false true h = refl
    go false false h = h

had-tail : (y i : ℕ) (l : List ℕ) → has i l ≡ true → has i (y ∷ l) ≡ true
unfolding has
had-tail y i l h = go (eqb y i)
  where
    go : (a : Bool) → a || has i l ≡ true
    go true = refl
    go false = h

had-first : (y : ℕ) (l : List ℕ) → has y (y ∷ l) ≡ true
unfolding has
had-first y l = rw (eq-eqb y y refl)

-- it is first or behind
had-split : (y i : ℕ) (l : List ℕ) → has i (y ∷ l) ≡ true → (y ≡ i) ⊎ ((y ≡ i → ⊥) × (has i l ≡ true))
unfolding has
had-split y i l h = go (eqb y i) refl h
  where
    go : (a : Bool) → eqb y i ≡ a → eqb y i || has i l ≡ true → (y ≡ i) ⊎ ((y ≡ i → ⊥) × (has i l ≡ true))
    go true e h = inl (eqb-true y i e)
    go false e h = inr (eqb-false y i e, rw e at h)

module _ (T : Trace) (t v : ℕ) where
  -- every other segment of a list is more recent than v
  abbrev Others : List ℕ → Type 0
  Others l = (j : ℕ) → has j l ≡ true → (j ≡ v → ⊥) → more_recent T t j v ≡ true

  -- v is not more recent than what is more recent than it, nor than itself
  not-newer : (z : ℕ) → ((z ≡ v → ⊥) → more_recent T t z v ≡ true) → more_recent T t v z ≡ false
  not-newer z other = go (more_recent T t v z) refl (eqb z v) refl
    where
      go : (b : Bool) → more_recent T t v z ≡ b → (c : Bool) → eqb z v ≡ c → more_recent T t v z ≡ false
      go false e c f = e
      go true e true f =
          let self : more_recent T t v v ≡ true = ap (λ w. more_recent T t v w) (sym (eqb-true z v f)) ∙ e in
          absurd (sooner-one (unreferenced T t v) (unreferenced T t v) self self)
      go true e false f = absurd (sooner-one (unreferenced T t v) (unreferenced T t z) e (other (eqb-false z v f)))

  -- one step of the search: what comes after y and z has v where y and z have it or not
  goes_on : (y z : ℕ) (zs : List ℕ) → has v (y ∷ z ∷ zs) ≡ true → Others (y ∷ z ∷ zs) → more_recent T t y z ≡ true
      → has v (z ∷ zs) ≡ true
  goes_on y z zs h others e =
      let behind = not-newer z (others z (had-tail y z (z ∷ zs) (had-first z zs))) in
      ⊎_elim (λ same. absurd (false≢true (sym behind ∙ (ap (λ w. more_recent T t w z) (sym same) ∙ e)))) (λ r. r.1)
      (had-split y v (z ∷ zs) h)

  stays-with : (y z : ℕ) (zs : List ℕ) → has v (y ∷ z ∷ zs) ≡ true → Others (y ∷ z ∷ zs) → more_recent T t y z ≡ false
      → has v (y ∷ zs) ≡ true
  stays-with y z zs h others e = ⊎_elim (λ same. rw (← same) (had-first y zs)) (λ r. go r.0 r.1) (had-split y v (z ∷ zs) h)
    where
      go : (y ≡ v → ⊥) → has v (z ∷ zs) ≡ true → has v (y ∷ zs) ≡ true
      go other behind =
          let newer = others y (had-first y (z ∷ zs)) other in
          ⊎_elim (λ same. absurd (false≢true (sym e ∙ (ap (λ w. more_recent T t y w) same ∙ newer)))) (λ q. had-tail y v zs q.1)
          (had-split z v zs behind)

  -- the search finds v
  least-is : (y : ℕ) (l : List ℕ) → has v (y ∷ l) ≡ true → Others (y ∷ l) → least_recent T t y l ≡ v
  unfolding least_recent has
  least-is y [] h others = ⊎_elim (λ same. same) (λ r. absurd (false≢true r.1)) (had-split y v [] h)
  least-is y (z ∷ zs) h others = go (more_recent T t y z) refl (least-is z zs) (least-is y zs)
    where
      go : (b : Bool) → more_recent T t y z ≡ b
          → (has v (z ∷ zs) ≡ true → Others (z ∷ zs) → least_recent T t z zs ≡ v)
          → (has v (y ∷ zs) ≡ true → Others (y ∷ zs) → least_recent T t y zs ≡ v)
          → cond (more_recent T t y z) (least_recent T t z zs) (least_recent T t y zs) ≡ v
      go true e from-z from-y = rw e (from-z (goes_on y z zs h others e) (λ j in-it. others j (had-tail y j (z ∷ zs) in-it)))
      go false e from-z from-y = rw e (from-y (stays-with y z zs h others e) (λ j in-it. others j (had-later y z j zs in-it)))

-- ---- the same segments

-- two lists of the same segments, and as many
pub record SameSegments (l m : List ℕ) : Type 0 where
  pub has_same : (i : ℕ) → has i l ≡ has i m
  pub length_same : length l ≡ length m

module _ (T : Trace) (fresh : (i : ℕ) → T.start i ≡ false) where
  -- a memory of no frames
  frames_zero : (t : ℕ) → memory T 0 t ≡ []
  unfolding memory reloaded swapped has
  frames_zero zero = refl
  frames_zero (suc t) = go (ltb (entry T t) (segs T)) (frames_zero t)
    where
      go : (b : Bool) → memory T 0 t ≡ [] → cond b (reloaded T 0 t (entry T t) (memory T 0 t)) (memory T 0 t) ≡ []
      go true e = rw e
      go false e = e

  ordered_few : (k t : ℕ) → length (ordered T k t) ≤ k
  ordered_few k t = omega (arith, ap length (inclusion T k t), length-take k (recency T t))

  -- one touch
  module _ (k t : ℕ) (on : entry T t < segs T) where
    law : LeastRecentGoes T (ordered T k) k t
    law = least_recent_goes T fresh k t

    ordered_next : ordered T k (suc t) ≡ reordered k (entry T t) (ordered T k t)
    unfolding ordered
    ordered_next = rw (lt-ltb (entry T t) (segs T) on)

    frames_next : memory T k (suc t) ≡ reloaded T k t (entry T t) (memory T k t)
    unfolding memory
    frames_next = rw (lt-ltb (entry T t) (segs T) on)

    -- what does not go and is not touched is there as before
    as_before : (i : ℕ) → (Goes (ordered T k) t i → ⊥) → (has i (ordered T k t) ≡ false → eqb (entry T t) i ≡ false)
        → has i (ordered T k (suc t)) ≡ has i (ordered T k t)
    as_before i stays other = go (has i (ordered T k t)) refl (has i (ordered T k (suc t))) refl
      where
        go : (a : Bool) → has i (ordered T k t) ≡ a → (b : Bool) → has i (ordered T k (suc t)) ≡ b
            → has i (ordered T k (suc t)) ≡ has i (ordered T k t)
        go true a true b = b ∙ sym a
        go true a false b = absurd (stays (record { before = a; after = b }))
        go false a true b = absurd (false≢true (sym (other a) ∙ (sym (touched-on T t i on) ∙ law.only_touched i a b)))
        go false a false b = b ∙ sym a

    after_hit : has (entry T t) (ordered T k t) ≡ true → (i : ℕ) → has i (ordered T k (suc t)) ≡ has i (ordered T k t)
    after_hit hit i =
        as_before i (λ g. false≢true (sym (law.goes_only i g).misses ∙ hit)) (λ out. go (eqb (entry T t) i) refl out)
      where
        go : (b : Bool) → eqb (entry T t) i ≡ b → has i (ordered T k t) ≡ false → eqb (entry T t) i ≡ false
        go true e out =
            absurd (false≢true (sym out ∙ (ap (λ x. has x (ordered T k t)) (sym (eqb-true (entry T t) i e)) ∙ hit)))
        go false e out = e

    after_free : length (ordered T k t) < k → (i : ℕ) → has i (ordered T k (suc t)) ≡ eqb (entry T t) i || has i (ordered T k t)
    after_free free i = go (eqb (entry T t) i) refl
      where
        go : (b : Bool) → eqb (entry T t) i ≡ b → has i (ordered T k (suc t)) ≡ eqb (entry T t) i || has i (ordered T k t)
        go true e = rw e (law.enters i (omega arith) (touched-on T t i on ∙ e))
        go false e = rw e (as_before i (λ g. absurd (omega (arith, (law.goes_only i g).full))) (λ out. e))

    module _ (l : List ℕ) (same : (i : ℕ) → has i l ≡ has i (ordered T k t)) (v : ℕ) (g : Goes (ordered T k) t v) where
      swap_is : swapped T t (entry T t) l ≡ replaced v (entry T t) l
      unfolding swapped replaced
      swap_is = go l same
        where
          go : (q : List ℕ) → ((i : ℕ) → has i q ≡ has i (ordered T k t)) → swapped T t (entry T t) q ≡ replaced v (entry T t) q
          go [] is = refl
          go (y ∷ ys) is =
              ap (λ (w : ℕ). replaced w (entry T t) (y ∷ ys))
              (least-is T t v y ys (is v ∙ g.before) (λ j h other. law.least-recent v j g (sym (is j) ∙ h) other))

      after_full : (i : ℕ) → has i (ordered T k (suc t)) ≡ has i (replaced v (entry T t) l)
      after_full i = go (eqb (entry T t) i) refl (eqb v i) refl
        where
          miss : FullMiss T (ordered T k) k t
          miss = law.goes_only v g

          different : (b : Bool) → eqb (entry T t) v ≡ b → eqb (entry T t) v ≡ false
          different false e = e
          different true e =
              absurd (false≢true (sym miss.misses ∙ (ap (λ x. has x (ordered T k t)) (eqb-true (entry T t) v e) ∙ g.before)))

          go : (a : Bool) → eqb (entry T t) i ≡ a → (b : Bool) → eqb v i ≡ b
              → has i (ordered T k (suc t)) ≡ has i (replaced v (entry T t) l)
          go true a c b =
              law.enters i miss.some_frame (touched-on T t i on ∙ a)
              ∙ sym (ap (λ x. has x (replaced v (entry T t) l)) (sym (eqb-true (entry T t) i a))
              ∙ has_new v (entry T t) l (same v ∙ g.before))
          go false a true b =
              ap (λ x. has x (ordered T k (suc t))) (sym (eqb-true v i b))
              ∙ (g.after ∙ sym (ap (λ x. has x (replaced v (entry T t) l)) (sym (eqb-true v i b))
              ∙ has-old v (entry T t) l (different (eqb (entry T t) v) refl)))
          go false a false b =
              as_before i
              (λ q. false≢true (sym q.after ∙ law.others_stay v i g q.before (λ e. eqb-false v i b (sym e))))
              (λ out. a)
              ∙ sym (has-others v (entry T t) i l a b ∙ same i)

    -- the frames after a hit, a miss with a free frame, and one without
    frames_hit : has (entry T t) (memory T k t) ≡ true → memory T k (suc t) ≡ memory T k t
    unfolding reloaded
    frames_hit hit = frames_next ∙ rw hit

    frames_free : has (entry T t) (memory T k t) ≡ false → length (memory T k t) < k → memory T k (suc t) ≡ entry T t ∷ memory T k t
    unfolding reloaded
    frames_free out free = frames_next ∙ rw (out, lt-ltb (length (memory T k t)) k free)

    frames_full : has (entry T t) (memory T k t) ≡ false → k ≤ length (memory T k t)
        → memory T k (suc t) ≡ swapped T t (entry T t) (memory T k t)
    unfolding reloaded
    frames_full out full = frames_next ∙ rw (out, le-ltb (length (memory T k t)) k full)

    -- how many segments the ordered one has after it
    ordered_hit : has (entry T t) (ordered T k t) ≡ true → length (ordered T k (suc t)) ≡ length (ordered T k t)
    unfolding reordered
    ordered_hit hit = ap length ordered_next ∙ rw hit (omega (arith, rw hit at (length_front (entry T t) (ordered T k t))))

    ordered_miss : has (entry T t) (ordered T k t) ≡ false → length (ordered T k (suc t)) ≡ min k (suc (length (ordered T k t)))
    unfolding reordered
    ordered_miss out = ap length ordered_next ∙ rw out (length-take k (entry T t ∷ ordered T k t))

    -- so both have the same segments after it
    touched_same : 1 ≤ k → SameSegments (memory T k t) (ordered T k t) → SameSegments (memory T k (suc t)) (ordered T k (suc t))
    unfolding has
    touched_same some_frame s = go (has (entry T t) (ordered T k t)) refl (ltb (length (ordered T k t)) k) refl
      where
        go : (a : Bool) → has (entry T t) (ordered T k t) ≡ a → (b : Bool) → ltb (length (ordered T k t)) k ≡ b
            → SameSegments (memory T k (suc t)) (ordered T k (suc t))
        go true e b f =
            rw (frames_hit (s.has_same (entry T t) ∙ e))
            record { has_same = λ i. s.has_same i ∙ sym (after_hit e i); length_same = s.length_same ∙ sym (ordered_hit e) }
        go false e true f =
            let free = ltb-true (length (ordered T k t)) k f in
            rw (frames_free (s.has_same (entry T t) ∙ e) (omega (arith, s.length_same, free)))
            record {
              has_same = λ i. ap (λ b. eqb (entry T t) i || b) (s.has_same i) ∙ sym (after_free free i);
              length_same = omega (arith, ordered_miss e, s.length_same, free);
            }
        go false e false f =
            let full = ltb-false (length (ordered T k t)) k f in
            let whole : length (ordered T k t) ≡ k = omega (arith, full, ordered_few k t) in
            let one = law.one_goes (record { some_frame = some_frame; touches = on; misses = e; full = whole }) in
            let swap = swap_is (memory T k t) s.has_same one.0 one.1 in
            rw (frames_full (s.has_same (entry T t) ∙ e) (omega (arith, s.length_same, full)) ∙ swap)
            record {
              has_same = λ i. sym (after_full (memory T k t) s.has_same one.0 one.1 i);
              length_same = omega
                  (arith, length-replaced one.0 (entry T t) (memory T k t), s.length_same, ordered_miss e, whole);
            }

  -- a step that touches nothing
  idle_same : (k t : ℕ) → segs T ≤ entry T t → SameSegments (memory T k t) (ordered T k t)
      → SameSegments (memory T k (suc t)) (ordered T k (suc t))
  unfolding memory ordered
  idle_same k t off s = rw (le-ltb (entry T t) (segs T) off) s

  some_same : (k t : ℕ) → 1 ≤ k → SameSegments (memory T k t) (ordered T k t)
  unfolding memory ordered
  some_same k zero some_frame = record { has_same = λ i. refl; length_same = refl }
  some_same k (suc t) some_frame = go (ltb (entry T t) (segs T)) refl (some_same k t some_frame)
    where
      go : (b : Bool) → ltb (entry T t) (segs T) ≡ b → SameSegments (memory T k t) (ordered T k t)
          → SameSegments (memory T k (suc t)) (ordered T k (suc t))
      go true e s = touched_same k t (ltb-true (entry T t) (segs T) e) some_frame s
      go false e s = idle_same k t (ltb-false (entry T t) (segs T) e) s

  fresh_same : (k t : ℕ) → SameSegments (memory T k t) (ordered T k t)
  fresh_same zero t = rw (frames_zero t, inclusion T 0 t) (record { has_same = λ i. refl; length_same = refl })
  fresh_same (suc k) t = some_same (suc k) t (omega arith)

-- ---- warm segments play no part: what the memory has was touched

-- the run without them
abbrev cold : Trace → Trace
cold T = record { kind = T.kind; a = T.a; sizes = T.sizes; start = λ i. false; entries = T.entries }

cold-time : (T : Trace) (t i m : ℕ) → unreferenced (cold T) t i ≡ some m → unreferenced T t i ≡ some m
unfolding unreferenced later
cold-time T zero i m e = timed e
cold-time T (suc t) i m e = go (touched T t i) e (cold-time T t i)
  where
    go : (b : Bool) → cond b (some 0) (later (unreferenced (cold T) t i)) ≡ some m
        → ((n : ℕ) → unreferenced (cold T) t i ≡ some n → unreferenced T t i ≡ some n)
        → cond b (some 0) (later (unreferenced T t i)) ≡ some m
    go true e ih = e
    go false e ih =
        let was = later-some (unreferenced (cold T) t i) m e in
        ap later (ih was.0 was.1) ∙ ap (λ n. some n) (sym was.2)

module _ (T : Trace) where
  -- every segment of a list was touched
  abbrev Touched : ℕ → List ℕ → Type 0
  Touched t l = (j : ℕ) → has j l ≡ true → (m : ℕ) × (unreferenced (cold T) t j ≡ some m)

  least-cold : (t y : ℕ) (l : List ℕ) → Touched t (y ∷ l) → least_recent T t y l ≡ least_recent (cold T) t y l
  unfolding least_recent
  least-cold t y [] all = refl
  least-cold t y (z ∷ zs) all =
      let of-y = all y (had-first y (z ∷ zs)) in
      let of-z = all z (had-tail y z (z ∷ zs) (had-first z zs)) in
      let test : more_recent T t y z ≡ more_recent (cold T) t y z =
      rw (of-y.1, of-z.1, cold-time T t y of-y.0 of-y.1, cold-time T t z of-z.0 of-z.1) in
      rw (
        test,
        least-cold t z zs (λ j in-it. all j (had-tail y j (z ∷ zs) in-it)),
        least-cold t y zs (λ j in-it. all j (had-later y z j zs in-it)),
      )

  memory-cold : (k t : ℕ) → memory T k t ≡ memory (cold T) k t
  unfolding memory reloaded swapped
  memory-cold k zero = refl
  memory-cold k (suc t) = rw (memory-cold k t) (go (memory (cold T) k t) all)
    where
      all : Touched t (memory (cold T) k t)
      all j h =
          let held = held-time (cold T) (λ i. refl) k t j (sym ((fresh_same (cold T) (λ i. refl) k t).has_same j) ∙ h) in
          (held.0, held.1)

      go : (l : List ℕ) → Touched t l
          → cond (ltb (entry T t) (segs T)) (reloaded T k t (entry T t) l) l
          ≡ cond (ltb (entry T t) (segs T)) (reloaded (cold T) k t (entry T t) l) l
      go [] touches = refl
      go (y ∷ ys) touches = rw (least-cold t y ys touches)

  ordered-cold : (k t : ℕ) → ordered T k t ≡ ordered (cold T) k t
  unfolding ordered
  ordered-cold k zero = refl
  ordered-cold k (suc t) = rw (ordered-cold k t)

  pub memory-same : (k t : ℕ) → SameSegments (memory T k t) (ordered T k t)
  memory-same k t = rw (memory-cold k t, ordered-cold k t) (fresh_same (cold T) (λ i. refl) k t)

  -- so both miss as often
  pub simulated-ordered : (k : ℕ) → lru_simulated T k ≡ over_touches T (λ t i. cond (has i (ordered T k t)) 0 1)
  unfolding lru_simulated
  simulated-ordered k =
      over_touches-eq T (λ t i. cond (has i (memory T k t)) 0 1) (λ t i. cond (has i (ordered T k t)) 0 1)
      (λ t i lt l m. rw ((memory-same k t).has_same i))

-- and the same goes from both
module _ (T : Trace) (m n : ℕ → List ℕ) (same : (t : ℕ) → SameSegments (m t) (n t)) (k t : ℕ) where
  over : (i : ℕ) → Goes m t i → Goes n t i
  over i g = record { before = sym ((same t).has_same i) ∙ g.before; after = sym ((same (suc t)).has_same i) ∙ g.after }

  back : (i : ℕ) → Goes n t i → Goes m t i
  back i g = record { before = (same t).has_same i ∙ g.before; after = (same (suc t)).has_same i ∙ g.after }

  miss-over : FullMiss T m k t → FullMiss T n k t
  miss-over q =
      record {
        some_frame = q.some_frame;
        touches = q.touches;
        misses = sym ((same t).has_same (entry T t)) ∙ q.misses;
        full = sym (same t).length_same ∙ q.full;
      }

  miss-back : FullMiss T n k t → FullMiss T m k t
  miss-back q =
      record {
        some_frame = q.some_frame;
        touches = q.touches;
        misses = (same t).has_same (entry T t) ∙ q.misses;
        full = (same t).length_same ∙ q.full;
      }

  pub goes_same : LeastRecentGoes T n k t → LeastRecentGoes T m k t
  goes_same law =
      record {
        one_goes = λ miss. let one = law.one_goes (miss-over miss) in (one.0, back one.0 one.1);
        goes_only = λ i g. miss-back (law.goes_only i (over i g));
        least-recent = λ i j g h other. law.least-recent i j (over i g) (sym ((same t).has_same j) ∙ h) other;
        others_stay = λ i j g h other.
            (same (suc t)).has_same j ∙ law.others_stay i j (over i g) (sym ((same t).has_same j) ∙ h) other;
        enters = λ i some_frame on. (same (suc t)).has_same i ∙ law.enters i some_frame on;
        only_touched = λ i out in-it. law.only_touched i (sym ((same t).has_same i) ∙ out) (sym ((same (suc t)).has_same i) ∙ in-it);
      }
