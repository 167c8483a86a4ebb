-- One step of one segment in the schedule of the least total, over plain variables: the cost of the step is within what modtotal counts
-- and the change of what is paid so far for holding the segment.
use Prim.Native.Nat.{ℕ, ◌+◌, ◌*◌, ◌≤◌}
use mathlib.Core.Path.{◌≡◌, refl}
use mathlib.Core.Bool.{Bool, true, false, cond, not, ◌&&◌, ◌||◌, false≢true, and-true}
use mathlib.Core.Option.{Option, none, some}
use native.Mathlib.Omega.{arith}
use lib.Dec.{leb}
use borrow.Author.Tests.{leb-true, leb-false}
use Rattle.model.specs.Costs.{keeps, total_cost}
use Rattle.model.specs.Traces.{later}
use Rattle.model.specs.Figures.{of_time, is_reuse}
use Rattle.stores.specs.Modtotal.{plus, or_store, joins}
use Rattle.stores.proofs.LowerBound.{excess_of, worth}

-- the decisions at a touch after the unreferenced time o, with the excess e since the last modifying touch: whether it is a kept reuse, and
-- whether, modifying, it belongs to the stay of that one
abbrev pub is_kept : ℕ → ℕ → ℕ → ℕ → Option ℕ → Bool
is_kept h d u w o = cond (is_reuse o) (keeps (d * of_time (λ k. k * u) o) (h * w)) false

abbrev pub is_joined : ℕ → ℕ → ℕ → ℕ → Option ℕ → Option ℕ → Bool
is_joined h d u w o e = joins (h * w) (plus e (excess_of h d u w o))

-- the value, 0 where there is none
abbrev value_of : Option ℕ → ℕ
value_of none = 0
value_of (some e) = e

value-plus : (x : ℕ) (e : Option ℕ) → is_reuse e ≡ true → value_of (plus e x) ≡ value_of e + x
value-plus x none r = absurd (false≢true r)
value-plus x (some e) r = refl

-- what is not joined costs a store
not-joined : (hw x : ℕ) (e : Option ℕ) → joins hw (plus e x) ≡ false → or_store hw (plus e x) ≡ hw
not-joined hw x none j = refl
not-joined hw x (some e) j = omega (arith, leb-false (e + x) hw j)

-- what is joined costs the excess
is-joined : (hw x : ℕ) (e : Option ℕ) → joins hw (plus e x) ≡ true → or_store hw (plus e x) ≡ value_of e + x
is-joined hw x none j = absurd (false≢true j)
is-joined hw x (some e) j = omega (arith, leb-true (e + x) hw j)

-- the cost of a touch in opttotal; with the excess it is at least d × R
abbrev touch_of : ℕ → ℕ → ℕ → ℕ → Option ℕ → ℕ
touch_of h d u w o =
    total_cost h d (cond (is_kept h d u w o) (of_time (λ k. k * u) o) 0) (cond (is_kept h d u w o) 0 w)

with-excess : (h d u w : ℕ) (o : Option ℕ) → d * of_time (λ k. k * u) o ≤ touch_of h d u w o + excess_of h d u w o
with-excess h d u w none = omega arith
with-excess h d u w (some k) = go (leb (d * (k * u)) (h * w)) refl
  where
    go : (b : Bool) → leb (d * (k * u)) (h * w) ≡ b → d * (k * u) ≤ touch_of h d u w (some k) + excess_of h d u w (some k)
    go true e = rw e (omega arith)
    go false e = rw e (omega arith)

retention-later : (d u : ℕ) (o : Option ℕ) → is_reuse (later o) ≡ true
    → d * of_time (λ k. k * u) (later o) ≡ d * of_time (λ k. k * u) o + d * u
unfolding later
retention-later d u none r = absurd (false≢true r)
retention-later d u (some k) r = omega arith

-- what is paid so far for a segment: j says whether the next modifying touch is joined, n whether the next touch is kept
abbrev pub paid : ℕ → ℕ → Option ℕ → Option ℕ → Bool → Bool → ℕ
paid d u o e j n = cond j (value_of e + d * of_time (λ k. k * u) o) (cond n (d * of_time (λ k. k * u) o) 0)

-- a touch with R = r that does not join: k says whether it is kept, b whether the segment is held before
load_step : (h d r w : ℕ) (k b : Bool) → (k ≡ true → b ≡ true)
    → h * cond b 0 w + cond k (d * r) 0 ≤ total_cost h d (cond k r 0) (cond k 0 w)
load_step h d r w true b held = rw (held refl) (omega arith)
load_step h d r w false true held = omega arith
load_step h d r w false false held = omega arith

module _ (h d u w : ℕ) (o e : Option ℕ) where
  -- a modifying touch: b and q say whether the segment is held and modified before
  modified-step : (x b q : Bool) → is_joined h d u w o e ≡ x → (is_kept h d u w o ≡ true → b ≡ true)
      → (x ≡ true → b ≡ true) → (x ≡ true → q ≡ true)
      → h * (cond b 0 w + cond (not q) w 0) + paid d u o e x (is_kept h d u w o) ≤ touch_of h d u w o + worth h d u w o e
  modified-step true b q x held_kept held-joined dirty_joined =
      rw (held-joined refl, dirty_joined refl, is-joined (h * w) (excess_of h d u w o) e x) (omega (arith, with-excess h d u w o))
  modified-step false b q x held_kept held-joined dirty_joined =
      rw (not-joined (h * w) (excess_of h d u w o) e x)
      (omega (arith, load_step h d (of_time (λ k. k * u) o) w (is_kept h d u w o) b held_kept, store q))
    where
      store : (q : Bool) → h * cond (not q) w 0 ≤ h * w
      store true = omega arith
      store false = omega arith

  -- a touch that does not modify: j says whether the next modifying touch is joined
  plain_step : (b j : Bool) → (is_kept h d u w o ≡ true → b ≡ true) → (j ≡ true → b ≡ true) → (j ≡ true → is_reuse e ≡ true)
      → h * cond b 0 w + paid d u o e j (is_kept h d u w o)
      ≤ touch_of h d u w o + cond j (value_of (plus e (excess_of h d u w o))) 0
  plain_step b true held_kept held-joined marked =
      rw (held-joined refl, value-plus (excess_of h d u w o) e (marked refl)) (omega (arith, with-excess h d u w o))
  plain_step b false held_kept held-joined marked =
      omega (arith, load_step h d (of_time (λ k. k * u) o) w (is_kept h d u w o) b held_kept)

  -- a step that does not touch the segment: n says whether its next touch is kept
  idle-step : (n j : Bool) → (n || j ≡ true → is_reuse (later o) ≡ true)
      → d * cond (n || j) u 0 + paid d u o e j n ≤ paid d u (later o) e j n
  idle-step true true reuse = omega (arith, retention-later d u o (reuse refl))
  idle-step true false reuse = omega (arith, retention-later d u o (reuse refl))
  idle-step false true reuse = omega (arith, retention-later d u o (reuse refl))
  idle-step false false reuse = omega arith

  -- all three: m says whether the segment is touched, g whether a touch modifies, n and j speak of what comes after the step
  pub one-step : (m g b q n j : Bool)
      → (m ≡ true → is_kept h d u w o ≡ true → b ≡ true)
      → (cond (m && g) (is_joined h d u w o e) j ≡ true → b ≡ true)
      → (cond (m && g) (is_joined h d u w o e) j ≡ true → q ≡ true)
      → (m ≡ true → g ≡ false → j ≡ true → is_reuse e ≡ true)
      → (m ≡ false → n || j ≡ true → is_reuse (later o) ≡ true)
      → total_cost h d (cond ((m || (n || j)) && not m) u 0) (cond m (cond b 0 w) 0 + cond m (cond (g && not q) w 0) 0)
      + paid d u o e (cond (m && g) (is_joined h d u w o e) j) (cond m (is_kept h d u w o) n)
      ≤ (cond m (touch_of h d u w o) 0 + cond m (cond g (worth h d u w o e) 0) 0)
      + paid d u (cond m (some 0) (later o)) (cond m (cond g (some 0) (plus e (excess_of h d u w o))) e) j n
  one-step true true b q n j held_kept held-joined dirty_joined marked reuse =
      omega (arith, modified-step (is_joined h d u w o e) b q refl (held_kept refl) held-joined dirty_joined)
  one-step true false b q n j held_kept held-joined dirty_joined marked reuse =
      omega (arith, plain_step b j (held_kept refl) held-joined (marked refl refl), touched-later j n)
    where
      touched-later : (j n : Bool)
          → cond j (value_of (plus e (excess_of h d u w o))) 0 ≤ paid d u (some 0) (plus e (excess_of h d u w o)) j n
      touched-later true n = omega arith
      touched-later false n = omega arith
  one-step false g b q n j held_kept held-joined dirty_joined marked reuse =
      rw (and-true (n || j)) (omega (arith, idle-step n j (reuse refl)))
