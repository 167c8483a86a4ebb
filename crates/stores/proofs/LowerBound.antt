-- No permitted schedule costs less than modtotal with stores counted, at any prices. Proved by a potential: of a held segment the least
-- cost of a touch in the next step, of a modified one what it saves at a modifying touch there.
use Prim.Native.Nat.{ℕ, zero, suc, ◌+◌, ◌-◌, ◌*◌, ◌≤◌, ◌<◌}
use mathlib.Core.Path.{◌≡◌, refl}
use mathlib.Core.Bool.{Bool, true, false, cond, not, ◌&&◌, ◌||◌, false≢true}
use mathlib.Core.List.{List}
use mathlib.Core.Option.{Option, none, some}
use native.Mathlib.Omega.{arith}
use Rattle.model.specs.Costs.{total_cost}
use Rattle.model.specs.Traces.{Trace, segs, steps, touched, swap_of, unit_of, later, unreferenced}
use Rattle.model.specs.Figures.{ref_cost, of_time}
use Rattle.model.specs.Schedules.{held, Permitted}
use Rattle.model.proofs.Sums.{sum-zero}
use Rattle.model.proofs.Touches.{unreferenced-none}
use Rattle.model.proofs.DoubleSums.{double_sum, double-add, double-total, over_touches-double, potential-le}
use Rattle.model.proofs.LowerBound.{least_cost, least-later, least-within, least_at, touch_cost, touch-least, opttotal-touches}
use Rattle.model.proofs.LowerBound.{memory_of, load_of}
use Rattle.stores.specs.Modtotal.{plus, since_mark, or_store, store_cost, mod_added, modtotal}
use Rattle.stores.specs.Stays.{modifies, marked_total}
use Rattle.stores.specs.inner.Marks.{dirty, stores_at_marks}
use Rattle.stores.proofs.Stays.{total-by-marks}

-- the excess after the unreferenced time o
abbrev pub excess_of : ℕ → ℕ → ℕ → ℕ → Option ℕ → ℕ
excess_of h d u w o = d * of_time (λ k. k * u) o - h * w

-- what a modified segment saves at a modifying touch, after the unreferenced time o and with the excess e since the last one
abbrev pub worth : ℕ → ℕ → ℕ → ℕ → Option ℕ → Option ℕ → ℕ
worth h d u w o e = or_store (h * w) (plus e (excess_of h d u w o))

-- at most a store
pub worth-within : (h d u w : ℕ) (o e : Option ℕ) → worth h d u w o e ≤ h * w
worth-within h d u w o none = omega arith
worth-within h d u w o (some e) = omega arith

-- one step more adds at most d × u to the least cost of a touch and to that together
both_later : (h d u w : ℕ) (o e : Option ℕ)
    → least_cost (d * u) (h * w) (later o) + worth h d u w (later o) e ≤ d * u + least_cost (d * u) (h * w) o + worth h d u w o e
unfolding later
both_later h d u w none none = omega arith
both_later h d u w none (some e) = omega arith
both_later h d u w (some k) none = omega arith
both_later h d u w (some k) (some e) = omega arith

-- a touch that does not modify leaves it
worth-touched : (h d u w : ℕ) (o e : Option ℕ) → worth h d u w (some 0) (plus e (excess_of h d u w o)) ≡ worth h d u w o e
worth-touched h d u w o none = refl
worth-touched h d u w o (some e) = omega arith

-- one step of one segment: m says whether it is touched, g whether a touch modifies, b and c whether it is held before the step and in
-- it, q whether it is modified before
one-step : (h d u w : ℕ) (o e : Option ℕ) (m g b c q : Bool) → (m ≡ false → c ≡ true → b ≡ true) → (q ≡ true → b ≡ true)
    → (cond m (least_cost (d * u) (h * w) o) 0 + cond m (cond g (worth h d u w o e) 0) 0)
    + (cond c (least_cost (d * u) (h * w) (cond m (some 0) (later o))) 0
    + cond (c && ((m && g) || q))
    (worth h d u w (cond m (some 0) (later o)) (cond m (cond g (some 0) (plus e (excess_of h d u w o))) e)) 0)
    ≤ total_cost h d (cond (c && not m) u 0) (cond m (cond b 0 w) 0 + cond m (cond (g && not q) w 0) 0)
    + (cond b (least_cost (d * u) (h * w) o) 0 + cond q (worth h d u w o e) 0)
one-step h d u w o e true true true true true stay clean = omega arith
one-step h d u w o e true true true true false stay clean = omega (arith, worth-within h d u w o e)
one-step h d u w o e true true true false true stay clean = omega arith
one-step h d u w o e true true true false false stay clean = omega (arith, worth-within h d u w o e)
one-step h d u w o e true true false c true stay clean = absurd (false≢true (clean refl))
one-step h d u w o e true true false true false stay clean = omega (arith, least-within (d * u) (h * w) o, worth-within h d u w o e)
one-step h d u w o e true true false false false stay clean = omega (arith, least-within (d * u) (h * w) o, worth-within h d u w o e)
one-step h d u w o e true false true true true stay clean = omega (arith, worth-touched h d u w o e)
one-step h d u w o e true false true true false stay clean = omega arith
one-step h d u w o e true false true false q stay clean = omega arith
one-step h d u w o e true false false c true stay clean = absurd (false≢true (clean refl))
one-step h d u w o e true false false true false stay clean = omega (arith, least-within (d * u) (h * w) o)
one-step h d u w o e true false false false false stay clean = omega (arith, least-within (d * u) (h * w) o)
one-step h d u w o e false g b true true stay clean = rw (stay refl refl) (omega (arith, both_later h d u w o e))
one-step h d u w o e false g b true false stay clean = rw (stay refl refl) (omega (arith, least-later (d * u) (h * w) o))
one-step h d u w o e false g b false q stay clean = omega arith

-- what is modified is held
pub dirty-held : (T : Trace) (marks : ℕ → Bool) (S : ℕ → ℕ → Bool) (t i : ℕ) → dirty T marks S t i ≡ true → S t i ≡ true
unfolding dirty
dirty-held T marks S zero i e = absurd (false≢true e)
dirty-held T marks S (suc t) i e = left (S (suc t) i) (modifies T marks t i || dirty T marks S t i) e
  where
    left : (a b : Bool) → a && b ≡ true → a ≡ true
    left true b e = refl
    left false b e = e

module _ (T : Trace) (marks : ℕ → Bool) (h d : ℕ) where
  -- what a touch adds to modtotal
  abbrev pub mod_cost : ℕ → ℕ → ℕ
  mod_cost t i =
      cond (touched T t i) (touch_cost T h d t i) 0 + cond (touched T t i) (cond (marks t) (store_cost T marks h d t i) 0) 0

  -- modtotal is d × Q and what every touch adds
  pub modtotal-touches : modtotal T marks h d ≡ d * ref_cost T + double_sum (steps T) (segs T) mod_cost
  unfolding modtotal mod_added
  modtotal-touches =
      omega (
        arith,
        opttotal-touches T h d,
        over_touches-double T (touch_cost T h d),
        over_touches-double T (λ t i. cond (marks t) (store_cost T marks h d t i) 0),
        double-add (steps T) (segs T) (λ t i. cond (touched T t i) (touch_cost T h d t i) 0)
            (λ t i. cond (touched T t i) (cond (marks t) (store_cost T marks h d t i) 0) 0),
      )

  module _ (S : ℕ → ℕ → Bool) where
    -- the load of segment i in the step at place t, and its cost beyond the reference
    abbrev pub load_cell : ℕ → ℕ → ℕ
    load_cell t i =
        cond (touched T t i) (cond (S t i) 0 (swap_of T i)) 0
        + cond (touched T t i) (cond (marks t && not (dirty T marks S t i)) (swap_of T i) 0) 0

    abbrev pub cost_cell : ℕ → ℕ → ℕ
    cost_cell t i = total_cost h d (cond (S (suc t) i && not (touched T t i)) (unit_of T i) 0) (load_cell t i)

    -- the total of S is d × Q and the cost of every segment in every step
    pub total-cells : total_cost h d (memory_of T S) (load_of T S + stores_at_marks T marks S)
        ≡ d * ref_cost T + double_sum (steps T) (segs T) cost_cell
    unfolding stores_at_marks
    total-cells =
        rw (
          over_touches-double T (λ t i. cond (S t i) 0 (swap_of T i)),
          over_touches-double T (λ t i. cond (marks t && not (dirty T marks S t i)) (swap_of T i) 0),
          ← (double-add (steps T) (segs T) (λ t i. cond (touched T t i) (cond (S t i) 0 (swap_of T i)) 0)
              (λ t i. cond (touched T t i) (cond (marks t && not (dirty T marks S t i)) (swap_of T i) 0) 0)),
        )
        (omega (
          arith,
          double-total (steps T) (segs T) (λ t i. cond (S (suc t) i && not (touched T t i)) (unit_of T i) 0) load_cell h d,
        ))

    -- the potential
    abbrev pub potential : ℕ → ℕ → ℕ
    potential t i =
        cond (S t i) (least_at T h d t i) 0
        + cond (dirty T marks S t i) (worth h d (unit_of T i) (swap_of T i) (unreferenced T t i) (since_mark T marks h d t i)) 0

-- S starts as the run does, and adds no untouched segment
module _ (T : Trace) (marks : ℕ → Bool) (h d : ℕ) (S : ℕ → ℕ → Bool)
    (starts : (i : ℕ) → i < segs T → S 0 i ≡ T.start i)
    (stays : (t i : ℕ) → t < steps T → i < segs T → touched T t i ≡ false → S (suc t) i ≡ true → S t i ≡ true) where
  pub potential-start : (i : ℕ) → i < segs T → potential T marks h d S 0 i ≡ 0
  unfolding dirty
  potential-start i lt = rw (starts i lt, unreferenced-none T i) (go (T.start i))
    where
      go : (b : Bool) → cond b (least_cost (d * unit_of T i) (h * swap_of T i) (cond b (some 0) none)) 0 + 0 ≡ 0
      go true = omega arith
      go false = refl

  pub potential-step : (t i : ℕ) → t < steps T → i < segs T
      → mod_cost T marks h d t i + potential T marks h d S (suc t) i ≤ cost_cell T marks h d S t i + potential T marks h d S t i
  unfolding unreferenced dirty since_mark store_cost
  potential-step t i lt l =
      rw (touch-least T h d t i)
      (one-step h d (unit_of T i) (swap_of T i) (unreferenced T t i) (since_mark T marks h d t i) (touched T t i) (marks t)
      (S t i) (S (suc t) i) (dirty T marks S t i) (stays t i lt l) (dirty-held T marks S t i))

  -- the total of S is at least modtotal
  pub lower-bound : modtotal T marks h d ≤ total_cost h d (memory_of T S) (load_of T S + stores_at_marks T marks S)
  lower-bound =
      omega (
        arith,
        modtotal-touches T marks h d,
        potential-le (steps T) (segs T) (mod_cost T marks h d) (cost_cell T marks h d S) (potential T marks h d S) potential-step,
        sum-zero (segs T) (potential T marks h d S 0) potential-start,
        total-cells T marks h d S,
      )

-- the total of a permitted schedule in bytes is at least modtotal
pub marked-lower-bound : (T : Trace) (marks : ℕ → Bool) (h d : ℕ) (p : List ℕ) → Permitted T p → segs T ≤ 256
    → modtotal T marks h d ≤ marked_total T marks h d p
unfolding held
marked-lower-bound T marks h d p ok le =
    rw (total-by-marks T marks h d p ok)
    (lower-bound T marks h d (held T p) (λ i lt. refl) (λ t i lt l. ok.others_stay t i lt (omega arith)))
