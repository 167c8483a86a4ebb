-- The loop that writes a schedule by decisions from the last step to the first: what is held next in each step, and the place, which is
-- filled from the end of the schedule backwards.
use Prim.Native.Nat.{ℕ, suc, ◌+◌, ◌-◌, ◌*◌, ◌/◌, ◌%◌, ◌≤◌, ◌<◌}
use mathlib.Core.Path.{◌≡◌, refl, sym, ap, ◌∙◌}
use mathlib.Core.Bool.{Bool, true, false, cond, ◌||◌}
use mathlib.Core.List.{List, ◌++◌, append_assoc}
use native.Mathlib.Omega.{arith}
use lib.Dec.{eqb}
use lib.ListN.{length, get_or, take, drop, length-append, length-drop, replicate, length-replicate, take-append-drop, get_or-append}
use lib.Seq.{paste, ext_get_or, take_all, take-take, take-append-le, drop_at, drop-drop, length-take-le, length-paste, get_or-take}
use lib.Seq.{get_or-drop}
use Rattle.model.specs.Traces.{Trace, segs, steps}
use Rattle.model.specs.Decisions.{held_byte, held_bytes, decided_held, decided_schedule, decisions_of}
use Rattle.model.proofs.Tables.{get_or-tabulate}
use Rattle.model.proofs.Decisions.{length-held_bytes, next as next_at, next-step, next-end}
use Rattle.schedule.specs.inner.Segments.{mask_row}
use Rattle.schedule.specs.inner.Writing.{step_with}
use Rattle.schedule.proofs.Segments.{touched-ref}
use Rattle.schedule.proofs.StepBytes.{bytes_of, bytes_of-eq, bytes_of-none, length-bytes_of}
use Rattle.schedule.proofs.StepBytes.{bytes_of-at, change, step_with-bytes_of, length-step_with}

-- a place that is `new` from `at + n` on and `old` before, with n elements of `new` put before that
fill-back : (old new s : List ℕ) (at n : ℕ) → at + n ≤ length old → length s ≡ n → take n (drop at new) ≡ s
    → paste (take (at + n) old ++ drop (at + n) new) at s n ≡ take at old ++ drop at new
fill-back old new s at n room whole part =
    let x = take (at + n) old ++ drop (at + n) new in
    let front : length (take (at + n) old) ≡ at + n = length-take-le (at + n) old room in
    let before : take at x ≡ take at old =
    take-append-le at (take (at + n) old) (drop (at + n) new) (omega arith) ∙ take-take at (at + n) old (omega arith)
    in
    let after : drop (at + n) x ≡ drop (at + n) new = drop_at (take (at + n) old) (drop (at + n) new) (at + n) front in
    let split : drop at new ≡ s ++ drop (at + n) new = sym (take-append-drop n (drop at new)) ∙ rw (part, drop-drop n at new) in
    rw (before, after, take_all n s (omega arith), split) (append_assoc (take at old) s (drop (at + n) new))

-- the bytes of the step at place t in a schedule, whatever follows that
schedule-part : (n : ℕ) (S : ℕ → ℕ → Bool) (rest : List ℕ) (t : ℕ) → t < n
    → take 32 (drop (32 * t) (held_bytes n S ++ rest)) ≡ bytes_of (S t)
unfolding held_bytes held_byte
schedule-part n S rest t lt =
    ext_get_or 0 (take 32 (drop (32 * t) whole)) (bytes_of (S t)) (long ∙ sym (length-bytes_of (S t))) at
  where
    whole : List ℕ
    whole = held_bytes n S ++ rest

    long : length (take 32 (drop (32 * t) whole)) ≡ 32
    long =
        length-take-le 32 (drop (32 * t) whole)
        (omega (arith, length-drop (32 * t) whole, length-append (held_bytes n S) rest, length-held_bytes n S))

    at : (j : ℕ) → j < length (take 32 (drop (32 * t) whole)) → get_or (take 32 (drop (32 * t) whole)) j 0 ≡ get_or (bytes_of (S t)) j 0
    at j l =
        let lj : j < 32 = omega (arith, long) in
        let place : (32 * t + j) / 32 ≡ t = omega arith in
        let byte : (32 * t + j) % 32 ≡ j = omega arith in
        get_or-take 32 (drop (32 * t) whole) j 0 lj
        ∙ get_or-drop (32 * t) whole j 0
        ∙ get_or-append (held_bytes n S) rest 0 (32 * t + j) (omega (arith, length-held_bytes n S))
        ∙ get_or-tabulate (32 * n) (held_byte S) (32 * t + j) 0 (omega arith)
        ∙ rw (place, byte, bytes_of-at (S t) j lj)

module _ (T : Trace) (decisions : List Bool) where
  -- by the decisions: what is held for its next touch after t steps, what the schedule holds in the step at place t, and its bytes
  abbrev pub waiting : ℕ → ℕ → Bool
  waiting t = next_at T (decisions_of decisions) t

  abbrev holding : ℕ → ℕ → Bool
  holding t = decided_held T (decisions_of decisions) t

  abbrev written : List ℕ
  written = decided_schedule T (decisions_of decisions)

  -- the segment of the step at place t
  abbrev at : ℕ → ℕ
  at t = mask_row (segs T) (get_or T.entries t 0)

  -- a step holds the touched segment, if it has one, and each other that waits
  held-step : (t : ℕ) → t < steps T → step_with (bytes_of (waiting (suc t))) (at t) 255 ≡ bytes_of (holding t)
  unfolding decided_held
  held-step t lt =
      step_with-bytes_of (waiting (suc t)) (at t) true
      ∙ bytes_of-eq (change (waiting (suc t)) (at t) true) (holding t)
      (λ i l. rw (touched-ref T t i lt l) (or-cond (eqb (at t) i) (waiting (suc t) i)))
    where
      or-cond : (a b : Bool) → cond a true b ≡ a || b
      or-cond true b = refl
      or-cond false b = refl

  -- before a step the touched segment waits where its touch is decided to be kept, and each other as after the step
  next-bytes : (t : ℕ) → t < steps T
      → step_with (bytes_of (waiting (suc t))) (at t) (cond (get_or decisions t false) 255 0) ≡ bytes_of (waiting t)
  next-bytes t lt =
      step_with-bytes_of (waiting (suc t)) (at t) (get_or decisions t false)
      ∙ bytes_of-eq (change (waiting (suc t)) (at t) (get_or decisions t false)) (waiting t)
      (λ i l. rw (next-step T (decisions_of decisions) t i lt, touched-ref T t i lt l))

  -- the schedule has 32 bytes for each step
  written-length : length written ≡ 32 * steps T
  unfolding decided_schedule
  written-length = length-held_bytes (steps T) (decided_held T (decisions_of decisions))

  written-part : (rest : List ℕ) (t : ℕ) → t < steps T → take 32 (drop (32 * t) (written ++ rest)) ≡ bytes_of (holding t)
  unfolding decided_schedule
  written-part = schedule-part (steps T) (decided_held T (decisions_of decisions))

-- all steps from place t on are written: `next` has the segments that wait then, `out` is the place
pub record Filled (T : Trace) (decisions : List Bool) (old next out : List ℕ) (t : ℕ) : Type 0 where
  pub next_is : next ≡ bytes_of (waiting T decisions t)
  pub out_is : out ≡ take (32 * t) old ++ drop (32 * t) (decided_schedule T (decisions_of decisions) ++ drop (32 * steps T) old)

module _ (T : Trace) (decisions : List Bool) (old : List ℕ) (room : 32 * steps T ≤ length old) where
  abbrev filled : List ℕ
  filled = decided_schedule T (decisions_of decisions) ++ drop (32 * steps T) old

  pub filled_start : Filled T decisions old (replicate 32 0) old (steps T)
  filled_start =
      record {
        next_is = sym (bytes_of-none (waiting T decisions (steps T)) (λ i l. next-end T (decisions_of decisions) i));
        out_is =
            sym (rw (drop_at (written T decisions) (drop (32 * steps T) old) (32 * steps T) (written-length T decisions))
            (take-append-drop (32 * steps T) old));
      }

  -- a turn: it writes the step at place t - 1, whose segment is i, and `on` tells its decision
  pub filled_turn : (next out next' out' : List ℕ) (t i on : ℕ) → Filled T decisions old next out t → 0 < t → t ≤ steps T
      → i ≡ mask_row (segs T) (get_or T.entries (t - 1) 0) → on ≡ cond (get_or decisions (t - 1) false) 255 0
      → next' ≡ step_with next i on → out' ≡ paste out (32 * (t - 1)) (step_with next i 255) 32 → Filled T decisions old next' out' (t - 1)
  filled_turn next out next' out' t i on v some le ei eo en ep =
      let k = t - 1 in
      let later : t ≡ suc k = omega arith in
      let bytes : 32 * suc k ≡ 32 * k + 32 = omega arith in
      let held : next ≡ bytes_of (waiting T decisions (suc k)) = rw later at v.next_is in
      let place = rw (later, bytes) at v.out_is in
      let step = bytes_of (decided_held T (decisions_of decisions) k) in
      record {
        next_is = en ∙ rw (held, eo, ei) (next-bytes T decisions k (omega arith));
        out_is =
            ep
            ∙ rw (place, held, ei, held-step T decisions k (omega arith))
            (fill-back old filled step (32 * k) 32
            (omega arith) (length-bytes_of (decided_held T (decisions_of decisions) k))
            (written-part T decisions (drop (32 * steps T) old) k (omega arith)));
      }

-- the same of every run of so many segments and these references, as the loop goes
pub record Filling (segments : ℕ) (refs : List ℕ) (decisions : List Bool) (old next out : List ℕ) (t : ℕ) : Type 0 where
  pub within : t ≤ length refs
  pub next_whole : length next ≡ 32
  pub out_whole : length out ≡ length old
  pub filled_of : (T : Trace) → segs T ≡ segments → T.entries ≡ refs → Filled T decisions old next out t

module _ (segments : ℕ) (refs : List ℕ) (decisions : List Bool) (old : List ℕ) (room : 32 * length refs ≤ length old) where
  pub filling_start : Filling segments refs decisions old (replicate 32 0) old (length refs)
  filling_start =
      record {
        within = omega arith;
        next_whole = length-replicate {A = ℕ} 32 0;
        out_whole = refl;
        filled_of = λ T es er.
            let n : length T.entries ≡ length refs = ap length er in
            rw n at (filled_start T decisions old (omega arith));
      }

  pub filling_turn : (next out next' out' : List ℕ) (t i on : ℕ) → Filling segments refs decisions old next out t → 0 < t
      → i ≡ mask_row segments (get_or refs (t - 1) 0) → on ≡ cond (get_or decisions (t - 1) false) 255 0
      → next' ≡ step_with next i on → out' ≡ paste out (32 * (t - 1)) (step_with next i 255) 32
      → Filling segments refs decisions old next' out' (t - 1)
  filling_turn next out next' out' t i on v some ei eo en ep =
      record {
        within = omega (arith, v.within);
        next_whole = ap length en ∙ length-step_with next i on;
        out_whole =
            ap length ep
            ∙ length-paste out (32 * (t - 1)) (step_with next i 255) 32 (omega (arith, v.within, v.out_whole))
            (omega (arith, length-step_with next i 255))
            ∙ v.out_whole;
        filled_of = λ T es er.
            let n : length T.entries ≡ length refs = ap length er in
            filled_turn T decisions old (omega arith) next out next' out' t i on (v.filled_of T es er) some (omega (arith, v.within))
            (ei ∙ sym (ap (λ (m : ℕ). mask_row m (get_or T.entries (t - 1) 0)) es
            ∙ ap (λ (l : List ℕ). mask_row segments (get_or l (t - 1) 0)) er)) eo en ep;
      }
