-- Schedules by decisions, from any start and with steps that touch nothing: what their bytes hold, where they are permitted, their memory
-- and their load. The memory is proved by a potential, R so far of each segment that is held for a kept touch.
use Prim.Native.Nat.{ℕ, zero, suc, ◌+◌, ◌-◌, ◌*◌, ◌/◌, ◌%◌, ◌^◌, ◌≤◌, ◌<◌}
use mathlib.Core.Path.{◌≡◌, refl, sym, ap, ◌∙◌}
use mathlib.Core.Bool.{Bool, true, false, cond, not, ◌&&◌, ◌||◌, false≢true}
use mathlib.Core.Option.{Option, none, some}
use native.Mathlib.Omega.{arith}
use lib.ListN.{length}
use Rattle.model.specs.Traces.{Trace, segs, steps, entry, touched, swap_of, unit_of, over_touches, later, unreferenced}
use Rattle.model.specs.Figures.{of_time, ref_cost, retention_of, is_reuse}
use Rattle.model.specs.Schedules.{held, Permitted, schedule_memory, schedule_load}
use Rattle.model.specs.Decisions.{held_byte, held_bytes, next_decided, decided_held, decided_schedule}
use Rattle.model.proofs.Sums.{sum-eq, sum-zero}
use Rattle.model.proofs.Tables.{length-tabulate, get_or-tabulate, tabulate-eq}
use Rattle.model.proofs.Touches.{touched-below, touched-beyond, entry-touched}
use Rattle.model.proofs.Touches.{unreferenced-none, unreferenced-touched, unreferenced-later, reuse-later}
use Rattle.model.proofs.Loads.{over_touches-eq}
use Rattle.model.proofs.DoubleSums.{over_touches-double, potential-eq}
use Rattle.model.proofs.Bits.{bit-of_bits}

pub length-held_bytes : (n : ℕ) (S : ℕ → ℕ → Bool) → length (held_bytes n S) ≡ 32 * n
unfolding held_bytes
length-held_bytes n S = length-tabulate (32 * n) (held_byte S)

-- steps that hold the same have the same bytes
pub held_bytes-eq : (n : ℕ) (S R : ℕ → ℕ → Bool) → ((t i : ℕ) → t < n → S t i ≡ R t i) → held_bytes n S ≡ held_bytes n R
unfolding held_bytes held_byte
held_bytes-eq n S R same =
    tabulate-eq (32 * n) (held_byte S) (held_byte R)
    (λ j lt. sum-eq 8 _ _ (λ k l. ap (λ b. cond b (2 ^ k) 0) (same (j / 32) (8 * (j % 32) + k) (omega arith))))

-- the bytes hold what they are made of
pub held_bytes_lem : (T : Trace) (S : ℕ → ℕ → Bool) (t i : ℕ) → t < steps T → i < 256 → held T (held_bytes (steps T) S) (suc t) i ≡ S t i
unfolding held held_bytes held_byte
held_bytes_lem T S t i lt l =
    let place : (32 * t + i / 8) / 32 ≡ t = omega arith in
    let byte : (32 * t + i / 8) % 32 ≡ i / 8 = omega arith in
    let whole : 8 * (i / 8) + i % 8 ≡ i = omega arith in
    rw (
      get_or-tabulate (32 * steps T) (held_byte S) (32 * t + i / 8) 0 (omega arith),
      bit-of_bits 8 (λ k. S ((32 * t + i / 8) / 32) (8 * ((32 * t + i / 8) % 32) + k)) (i % 8) (omega arith),
      place,
      byte,
      whole,
    )

-- only the decisions of touches count
module _ (T : Trace) (f g : ℕ → ℕ → Bool) (same : (t : ℕ) → t < steps T → entry T t < segs T → f t (entry T t) ≡ g t (entry T t)) where
  pub next_decided-eq : (k t i : ℕ) → t + k ≤ steps T → next_decided T f k t i ≡ next_decided T g k t i
  unfolding next_decided
  next_decided-eq zero t i le = refl
  next_decided-eq (suc k) t i le = rw (next_decided-eq k (suc t) i (omega arith)) (go (touched T t i) refl)
    where
      go : (m : Bool) → touched T t i ≡ m
          → cond m (f t i) (next_decided T g k (suc t) i) ≡ cond m (g t i) (next_decided T g k (suc t) i)
      go true m =
          let is = entry-touched T t i m in
          rw is at (same t (omega arith) (omega (arith, is, touched-below T t i m)))
      go false m = refl

  pub decided_schedule-eq : decided_schedule T f ≡ decided_schedule T g
  unfolding decided_schedule decided_held
  decided_schedule-eq =
      held_bytes-eq (steps T) (decided_held T f) (decided_held T g)
      (λ t i lt. ap (λ b. touched T t i || b) (next_decided-eq (steps T - suc t) (suc t) i (omega arith)))

-- one step of one segment of unit cost u: m says whether it is touched, k whether that touch is kept, n whether the next touch after the
-- step is. R of a kept touch and the potential after the step are the schedule's cost and the potential before
one-step : (u : ℕ) (o : Option ℕ) (m k n : Bool) → (n ≡ true → is_reuse (cond m (some 0) (later o)) ≡ true)
    → cond m (cond k (of_time (λ j. j * u) o) 0) 0 + cond n (of_time (λ j. j * u) (cond m (some 0) (later o))) 0
    ≡ cond ((m || n) && not m) u 0 + cond (cond m k n) (of_time (λ j. j * u) o) 0
unfolding later
one-step u o true k true reuse = omega arith
one-step u o true k false reuse = omega arith
one-step u none false k true reuse = absurd (false≢true (reuse refl))
one-step u (some j) false k true reuse = omega arith
one-step u o false k false reuse = refl

module _ (T : Trace) (f : ℕ → ℕ → Bool) where
  -- of all steps from place t on, the first that touches segment i is decided to be kept
  abbrev pub next : ℕ → ℕ → Bool
  next t i = next_decided T f (steps T - t) t i

  -- that is the touch in the step at place t, or else the next one after it
  pub next-step : (t i : ℕ) → t < steps T → next t i ≡ cond (touched T t i) (f t i) (next (suc t) i)
  unfolding next_decided
  next-step t i lt =
      let more : steps T - t ≡ suc (steps T - suc t) = omega arith in
      rw more

  -- after the last step there is none
  pub next-end : (i : ℕ) → next (steps T) i ≡ false
  unfolding next_decided
  next-end i =
      let done : steps T - steps T ≡ 0 = omega arith in
      rw done

  -- what is no segment is never kept
  pub next_decided-beyond : (k t i : ℕ) → segs T ≤ i → next_decided T f k t i ≡ false
  unfolding next_decided
  next_decided-beyond zero t i le = refl
  next_decided-beyond (suc k) t i le = rw (touched-beyond T t i le) (next_decided-beyond k (suc t) i le)

  -- its bytes hold what it holds
  pub held-decided : (t i : ℕ) → t < steps T → i < 256 → held T (decided_schedule T f) (suc t) i ≡ decided_held T f t i
  unfolding decided_schedule
  held-decided t i lt l = held_bytes_lem T (decided_held T f) t i lt l

-- where no first touch is decided to be kept
module _ (T : Trace) (f : ℕ → ℕ → Bool) (reuses : (t i : ℕ) → f t i ≡ true → is_reuse (unreferenced T t i) ≡ true) where
  -- only what was touched before is kept for a touch
  pub next_decided-reuse : (k t i : ℕ) → next_decided T f k t i ≡ true → is_reuse (unreferenced T t i) ≡ true
  unfolding next_decided
  next_decided-reuse zero t i e = absurd (false≢true e)
  next_decided-reuse (suc k) t i e = go (touched T t i) refl e (next_decided-reuse k (suc t) i)
    where
      go : (m : Bool) → touched T t i ≡ m → cond m (f t i) (next_decided T f k (suc t) i) ≡ true
          → (next_decided T f k (suc t) i ≡ true → is_reuse (unreferenced T (suc t) i) ≡ true) → is_reuse (unreferenced T t i) ≡ true
      go true m e again = reuses t i e
      go false m e again = sym (rw (unreferenced-later T t i m) (reuse-later (unreferenced T t i))) ∙ again e

  -- after t steps every segment whose next touch is kept is held
  next-held : (t i : ℕ) → t ≤ steps T → i < 256 → next T f t i ≡ true → held T (decided_schedule T f) t i ≡ true
  unfolding held decided_held
  next-held zero i le l e = start (T.start i) (rw (unreferenced-none T i) at (next_decided-reuse (steps T - 0) 0 i e))
    where
      start : (b : Bool) → is_reuse (cond b (some 0) none) ≡ true → b ≡ true
      start true r = refl
      start false r = r
  next-held (suc t) i le l e = held-decided T f t i le l ∙ rw e (or-true (touched T t i))
    where
      or-true : (m : Bool) → m || true ≡ true
      or-true true = refl
      or-true false = refl

  -- the schedule is permitted
  pub decided-permitted : segs T ≤ 256 → Permitted T (decided_schedule T f)
  unfolding decided_held decided_schedule
  decided-permitted few =
      record {
        whole = length-held_bytes (steps T) (decided_held T f);
        touched_held = λ t i lt m. held-decided T f t i lt (omega (arith, touched-below T t i m)) ∙ rw m;
        others_stay = λ t i lt l m e.
            next-held t i (omega arith) l (next-step T f t i lt ∙ rw m (sym (held-decided T f t i lt l ∙ rw m) ∙ e));
      }

  -- the potential: R so far of a segment whose next touch is kept
  abbrev so_far : ℕ → ℕ → ℕ
  so_far t i = cond (next T f t i) (retention_of T t i) 0

  so_far-start : (i : ℕ) → so_far 0 i ≡ 0
  so_far-start i = rw (unreferenced-none T i) (go (next T f 0 i) (T.start i))
    where
      go : (n b : Bool) → cond n (of_time (λ k. k * unit_of T i) (cond b (some 0) none)) 0 ≡ 0
      go true true = omega arith
      go true false = refl
      go false b = refl

  so_far-step : (t i : ℕ) → t < steps T → i < 256
      → cond (touched T t i) (cond (f t i) (retention_of T t i) 0) 0 + so_far (suc t) i
      ≡ cond (held T (decided_schedule T f) (suc t) i && not (touched T t i)) (unit_of T i) 0 + so_far t i
  unfolding decided_held unreferenced
  so_far-step t i lt l =
      rw (held-decided T f t i lt l, next-step T f t i lt)
      (one-step (unit_of T i) (unreferenced T t i) (touched T t i) (f t i) (next T f (suc t) i)
      (next_decided-reuse (steps T - suc t) (suc t) i))

  -- its memory is Q and R of the kept touches
  pub decided-memory : segs T ≤ 256
      → schedule_memory T (decided_schedule T f) ≡ ref_cost T + over_touches T (λ t i. cond (f t i) (retention_of T t i) 0)
  unfolding schedule_memory
  decided-memory few =
      omega (
        arith,
        over_touches-double T (λ t i. cond (f t i) (retention_of T t i) 0),
        potential-eq
            (steps T)
            (segs T)
            (λ t i. cond (touched T t i) (cond (f t i) (retention_of T t i) 0) 0)
            (λ t i. cond (held T (decided_schedule T f) (suc t) i && not (touched T t i)) (unit_of T i) 0)
            so_far
            (λ t i lt l. so_far-step t i lt (omega arith)),
        sum-zero (segs T) (so_far 0) (λ i l. so_far-start i),
        sum-zero (segs T) (so_far (steps T)) (λ i l. rw (next-end T f i)),
      )

  -- and where each touch right after one of the same segment is kept
  module _ (at_once : (t i : ℕ) → unreferenced T t i ≡ some 0 → f t i ≡ true) where
    -- before each touch the segment is held exactly where the touch is kept
    pub held_kept : (t i : ℕ) → t < steps T → i < 256 → touched T t i ≡ true → held T (decided_schedule T f) t i ≡ f t i
    unfolding held decided_held
    held_kept zero i lt l m = start (T.start i) refl (f 0 i) refl
      where
        start : (b : Bool) → T.start i ≡ b → (k : Bool) → f 0 i ≡ k → T.start i ≡ f 0 i
        start true s k e = s ∙ sym (at_once 0 i (unreferenced-none T i ∙ rw s))
        start false s false e = s ∙ sym e
        start false s true e = absurd (false≢true (rw (unreferenced-none T i, s) at (reuses 0 i e)))
    held_kept (suc t) i lt l m = held-decided T f t i (omega arith) l ∙ last (touched T t i) refl
      where
        last : (b : Bool) → touched T t i ≡ b → decided_held T f t i ≡ f (suc t) i
        last true s = rw s (sym (at_once (suc t) i (unreferenced-touched T t i s)))
        last false s = rw s (next-step T f (suc t) i lt ∙ rw m)

    -- the load is w of the other touches
    pub decided-load : segs T ≤ 256 → schedule_load T (decided_schedule T f) ≡ over_touches T (λ t i. cond (f t i) 0 (swap_of T i))
    unfolding schedule_load
    decided-load few =
        over_touches-eq T (λ t i. cond (held T (decided_schedule T f) t i) 0 (swap_of T i)) (λ t i. cond (f t i) 0 (swap_of T i))
        (λ t i lt l m. rw (held_kept t i lt (omega arith) m))
