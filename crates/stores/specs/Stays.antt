-- Modified segments (request F-13), the part that must be believed: what a stay is, what a schedule stores, and what it then costs. It is
-- the request's sentence and no method: nothing else says what a store is. S t i says that segment i is held in step t, counted from 1, and
-- S 0 i that it is warm; `marks t` that the touch in step t + 1 modifies, the letter w.
use Rattle.std.specs.Prelude.{ℕ, zero, suc, ◌+◌, ◌≤◌, ◌<◌, ◌≡◌, Bool, true, false, cond, not, ◌&&◌, ◌||◌, List, leb, ltb}
use Rattle.model.specs.Costs.{total_cost}
use Rattle.model.specs.Sums.{sum}
use Rattle.model.specs.Traces.{Trace, steps, touched, swap_of, over_segments}
use Rattle.model.specs.Schedules.{held, schedule_memory, schedule_load}

-- f 0, f 1, .., f (n - 1) are all true; one of them is
unfoldable pub all : ℕ → (ℕ → Bool) → Bool
all zero f = true
all (suc n) f = all n f && f n

unfoldable pub any : ℕ → (ℕ → Bool) → Bool
any zero f = false
any (suc n) f = any n f || f n

-- f is true of every step from `first` to `last`: each up to `last` is before `first`, or f is true of it
unfoldable pub every_step : ℕ → ℕ → (ℕ → Bool) → Bool
every_step first last f = all (suc last) (λ t. ltb t first || f t)

-- f is true of a step from `first` to `last`
unfoldable pub some_step : ℕ → ℕ → (ℕ → Bool) → Bool
some_step first last f = any (suc last) (λ t. leb first t && f t)

-- segment i is held in the step before `first`; there is none before step 0
unfoldable pub held_before : (ℕ → ℕ → Bool) → ℕ → ℕ → Bool
held_before S i zero = false
held_before S i (suc t) = S t i

-- segment i is held in the step after `last`; there is none after the record's last step
unfoldable pub held_after : Trace → (ℕ → ℕ → Bool) → ℕ → ℕ → Bool
held_after T S i last = ltb last (steps T) && S (suc last) i

-- the steps from `first` to `last`, all of them the record's, are a stay of segment i: an unbroken run of steps in which it is held, and
-- the whole of it. It is held in each of them, not in the step before and not in the step after. So a stay starts at step 0 for a warm
-- segment held in step 1 (where step 1 drops it, step 0 is a stay without a touch), and the record's last step ends it
unfoldable pub is_stay : Trace → (ℕ → ℕ → Bool) → ℕ → ℕ → ℕ → Bool
is_stay T S i first last =
    (leb first last && leb last (steps T))
    && (every_step first last (λ t. S t i) && (not (held_before S i first) && not (held_after T S i last)))

-- the step at place t, which is step t + 1, touches segment i and modifies it; a mark on a step without a touch says nothing
abbrev pub modifies : Trace → (ℕ → Bool) → ℕ → ℕ → Bool
modifies T marks t i = touched T t i && marks t

-- step t, counted from 1, does; step 0 touches nothing
unfoldable pub modifies_in : Trace → (ℕ → Bool) → ℕ → ℕ → Bool
modifies_in T marks i zero = false
modifies_in T marks i (suc t) = modifies T marks t i

-- a stay with at least one modifying touch
unfoldable pub is_modified_stay : Trace → (ℕ → Bool) → (ℕ → ℕ → Bool) → ℕ → ℕ → ℕ → Bool
is_modified_stay T marks S i first last = is_stay T S i first last && some_step first last (modifies_in T marks i)

-- the sum of f t over the steps 0, 1, .. up to the record's last
abbrev pub over_steps : Trace → (ℕ → ℕ) → ℕ
over_steps T f = sum (suc (steps T)) f

-- the stores of a schedule: each stay of each segment with at least one modifying touch adds w, once
unfoldable pub stores_of : Trace → (ℕ → Bool) → (ℕ → ℕ → Bool) → ℕ
stores_of T marks S =
    over_segments T (λ i. over_steps T (λ first. over_steps T (λ last. cond (is_modified_stay T marks S i first last) (swap_of T i) 0)))

-- load of a schedule with stores counted, and its total
unfoldable pub marked_load : Trace → (ℕ → Bool) → List ℕ → ℕ
marked_load T marks p = schedule_load T p + stores_of T marks (held T p)

unfoldable pub marked_total : Trace → (ℕ → Bool) → ℕ → ℕ → List ℕ → ℕ
marked_total T marks h d p = total_cost h d (schedule_memory T p) (marked_load T marks p)

-- A stay and a modifying touch in it as statements, without tests; that the tests above say the same is proved (proofs/StayTests.antt). The
-- steps from `first` to `last` are a stay of segment i
pub record Stay (T : Trace) (S : ℕ → ℕ → Bool) (i first last : ℕ) : Type 0 where
  -- there is such a step, and all are the record's
  pub ordered : first ≤ last
  pub recorded : last ≤ steps T
  -- it is held in every one
  pub unbroken : (t : ℕ) → first ≤ t → t ≤ last → S t i ≡ true
  -- not in the step before, where there is one
  pub starts : (t : ℕ) → suc t ≡ first → S t i ≡ false
  -- not in the step after, or the record ends
  pub ends : last < steps T → S (suc last) i ≡ false

-- step t + 1 is one of those from `first` to `last`, touches segment i and modifies it
pub record Modifying (T : Trace) (marks : ℕ → Bool) (i first last t : ℕ) : Type 0 where
  pub from : first ≤ suc t
  pub up_to : suc t ≤ last
  pub touches : touched T t i ≡ true
  pub marked : marks t ≡ true
