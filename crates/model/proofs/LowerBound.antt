-- No permitted schedule has a total below opttotal, at any prices. Proved step by step for each segment, with the potential: of a held
-- segment, the least cost of a touch in the next step.
use Prim.Native.Nat.{ℕ, suc, ◌+◌, ◌*◌, ◌≤◌, ◌<◌, min}
use mathlib.Core.Path.{◌≡◌, refl, ◌∙◌}
use mathlib.Core.Bool.{Bool, true, false, cond, not, ◌&&◌}
use mathlib.Core.List.{List}
use mathlib.Core.Option.{Option, none, some}
use native.Mathlib.Omega.{arith}
use lib.Dec.{leb}
use borrow.Author.Tests.{leb-true, leb-false}
use Rattle.model.specs.Costs.{keeps, total_cost}
use Rattle.model.specs.Sums.{sum}
use Rattle.model.specs.Traces.{Trace, segs, steps, touched, swap_of, unit_of, over_touches, over_segments, later, unreferenced}
use Rattle.model.specs.Figures.{ref_cost, retention_of, kept, optmem, opttotal}
use Rattle.model.specs.Schedules.{held, Permitted, schedule_memory, schedule_load, schedule_total}
use Rattle.model.proofs.Sums.{sum-zero}
use Rattle.model.proofs.Touches.{unreferenced-none}
use Rattle.model.proofs.Loads.{over_touches-total, load-swaps}
use Rattle.model.proofs.DoubleSums.{double_sum, double-total, over_touches-double, potential-le}

-- the least cost of a touch after the unreferenced time o, beyond the reference: that of keeping at u a step or that of a load, w
abbrev pub least_cost : ℕ → ℕ → Option ℕ → ℕ
least_cost u w none = w
least_cost u w (some k) = min (k * u) w

-- one step more adds at most u
pub least-later : (u w : ℕ) (o : Option ℕ) → least_cost u w (later o) ≤ u + least_cost u w o
unfolding later
least-later u w none = omega arith
least-later u w (some k) = omega arith

-- a load is always possible
pub least-within : (u w : ℕ) (o : Option ℕ) → least_cost u w o ≤ w
least-within u w none = omega arith
least-within u w (some k) = omega arith

-- the keep test chooses the smaller of d × r and h × w
choice : (h d r w : ℕ) → total_cost h d (cond (keeps (d * r) (h * w)) r 0) (cond (keeps (d * r) (h * w)) 0 w) ≡ min (d * r) (h * w)
choice h d r w = go (leb (d * r) (h * w)) refl
  where
    go : (b : Bool) → leb (d * r) (h * w) ≡ b
        → total_cost h d (cond (keeps (d * r) (h * w)) r 0) (cond (keeps (d * r) (h * w)) 0 w) ≡ min (d * r) (h * w)
    go true e = rw e (omega (arith, leb-true (d * r) (h * w) e))
    go false e = rw e (omega (arith, leb-false (d * r) (h * w) e))

cond-within : (b : Bool) (x : ℕ) → cond b x 0 ≤ x
cond-within true x = omega arith
cond-within false x = omega arith

-- one step of one segment: m says whether it is touched, b and c whether it is held before the step and in it. The optimum's cost and
-- the potential after the step are within the schedule's cost and the potential before
one-step : (h d u w : ℕ) (o : Option ℕ) (m b c : Bool) → (m ≡ false → c ≡ true → b ≡ true)
    → cond m (least_cost (d * u) (h * w) o) 0 + cond c (least_cost (d * u) (h * w) (cond m (some 0) (later o))) 0
    ≤ total_cost h d (cond (c && not m) u 0) (cond m (cond b 0 w) 0) + cond b (least_cost (d * u) (h * w) o) 0
one-step h d u w o true true c stay = omega (arith, cond-within c (min (0 * (d * u)) (h * w)))
one-step h d u w o true false c stay = omega (arith, cond-within c (min (0 * (d * u)) (h * w)), least-within (d * u) (h * w) o)
one-step h d u w o false b true stay = rw (stay refl refl) (omega (arith, least-later (d * u) (h * w) o))
one-step h d u w o false b false stay = omega arith

module _ (T : Trace) (h d : ℕ) where
  -- the least cost of a touch of segment i after t steps
  abbrev pub least_at : ℕ → ℕ → ℕ
  least_at t i = least_cost (d * unit_of T i) (h * swap_of T i) (unreferenced T t i)

  -- the cost of a touch in opttotal: d × R where it is kept, h × w where not
  abbrev pub touch_cost : ℕ → ℕ → ℕ
  touch_cost t i = total_cost h d (cond (kept T h d t i) (retention_of T t i) 0) (cond (kept T h d t i) 0 (swap_of T i))

  pub touch-least : (t i : ℕ) → touch_cost t i ≡ least_at t i
  unfolding kept
  touch-least t i = go (unreferenced T t i) refl
    where
      go : (o : Option ℕ) → unreferenced T t i ≡ o → touch_cost t i ≡ least_at t i
      go none e = rw e (omega arith)
      go (some k) e = rw e (choice h d (k * unit_of T i) (swap_of T i) ∙ omega arith)

  -- opttotal is d × Q and the cost of every touch
  pub opttotal-touches : opttotal T h d ≡ d * ref_cost T + over_touches T touch_cost
  unfolding opttotal optmem
  opttotal-touches =
      rw (load-swaps T h d) (omega (
        arith,
        over_touches-total T h d (λ t i. cond (kept T h d t i) (retention_of T t i) 0) (λ t i. cond (kept T h d t i) 0 (swap_of T i)),
      ))

-- memory of a schedule S, by which segment i is held in the step at place t where S (suc t) i, and before step 1 where S 0 i
abbrev pub memory_of : Trace → (ℕ → ℕ → Bool) → ℕ
memory_of T S =
    ref_cost T + sum (steps T) (λ t. over_segments T (λ i. cond (S (suc t) i && not (touched T t i)) (unit_of T i) 0))

-- load of a schedule S
abbrev pub load_of : Trace → (ℕ → ℕ → Bool) → ℕ
load_of T S = over_touches T (λ t i. cond (S t i) 0 (swap_of T i))

module _ (T : Trace) (h d : ℕ) (S : ℕ → ℕ → Bool) where
  -- the cost of segment i to S in the step at place t, beyond the reference
  abbrev pub segment_cost : ℕ → ℕ → ℕ
  segment_cost t i =
      total_cost h d (cond (S (suc t) i && not (touched T t i)) (unit_of T i) 0) (cond (touched T t i) (cond (S t i) 0 (swap_of T i)) 0)

  -- the total of S is d × Q and the cost of every segment in every step
  pub total-segments : total_cost h d (memory_of T S) (load_of T S) ≡ d * ref_cost T + double_sum (steps T) (segs T) segment_cost
  total-segments =
      rw (over_touches-double T (λ t i. cond (S t i) 0 (swap_of T i)))
      (omega (
        arith,
        double-total
            (steps T)
            (segs T)
            (λ t i. cond (S (suc t) i && not (touched T t i)) (unit_of T i) 0)
            (λ t i. cond (touched T t i) (cond (S t i) 0 (swap_of T i)) 0)
            h
            d,
      ))

-- S starts as the run does, and adds no untouched segment
module _ (T : Trace) (h d : ℕ) (S : ℕ → ℕ → Bool)
    (starts : (i : ℕ) → i < segs T → S 0 i ≡ T.start i)
    (stays : (t i : ℕ) → t < steps T → i < segs T → touched T t i ≡ false → S (suc t) i ≡ true → S t i ≡ true) where
  -- the potential: the least cost of a touch, where S holds the segment
  abbrev potential : ℕ → ℕ → ℕ
  potential t i = cond (S t i) (least_at T h d t i) 0

  potential-start : (i : ℕ) → i < segs T → potential 0 i ≡ 0
  potential-start i lt = rw (starts i lt, unreferenced-none T i) (go (T.start i))
    where
      go : (b : Bool) → cond b (least_cost (d * unit_of T i) (h * swap_of T i) (cond b (some 0) none)) 0 ≡ 0
      go true = omega arith
      go false = refl

  potential-step : (t i : ℕ) → t < steps T → i < segs T
      → cond (touched T t i) (touch_cost T h d t i) 0 + potential (suc t) i ≤ segment_cost T h d S t i + potential t i
  unfolding unreferenced
  potential-step t i lt l =
      rw (touch-least T h d t i)
      (one-step h d (unit_of T i) (swap_of T i) (unreferenced T t i) (touched T t i) (S t i) (S (suc t) i) (stays t i lt l))

  -- the total of S is at least opttotal
  pub lower-bound : opttotal T h d ≤ total_cost h d (memory_of T S) (load_of T S)
  lower-bound =
      omega (
        arith,
        opttotal-touches T h d,
        over_touches-double T (touch_cost T h d),
        potential-le (steps T) (segs T) (λ t i. cond (touched T t i) (touch_cost T h d t i) 0) (segment_cost T h d S) potential
            potential-step,
        sum-zero (segs T) (potential 0) potential-start,
        total-segments T h d S,
      )

-- the total of a permitted schedule in bytes is at least opttotal
pub schedule-lower-bound : (T : Trace) (h d : ℕ) (p : List ℕ) → Permitted T p → segs T ≤ 256 → opttotal T h d ≤ schedule_total T h d p
unfolding schedule_total schedule_memory schedule_load held
schedule-lower-bound T h d p ok le =
    lower-bound T h d (held T p) (λ i lt. refl) (λ t i lt l. ok.others_stay t i lt (omega arith))
