-- A list walked in parts: x found in a part, a part passed, and the last part.
use Prim.Native.Nat.{ℕ, zero, suc, ◌+◌, ◌-◌, ◌≤◌, ◌<◌}
use mathlib.Core.Path.{◌≡◌, refl, ap}
use mathlib.Core.Bool.{Bool, true, false, cond}
use mathlib.Core.List.{List, [], ◌∷◌}
use native.Mathlib.Omega.{arith}
use lib.Dec.{eqb, ltb}
use lib.ListN.{length, take, drop, length-drop}
use lib.Seq.{drop-drop, length-take-le}
use borrow.Author.Tests.{ltb-true, ltb-false}
use Rattle.lru_curve.specs.declared.recency_list.Walk.{Walk}
use Rattle.lru_curve.specs.inner.Entries.{walk_of}
use Rattle.lru_curve.specs.inner.Used.{frame_in}
use Rattle.lru_curve.proofs.Indexes.{PassedBy, index-within, walked, walk-found, walk_none}
use Rattle.lru_curve.proofs.Indexes.{before-is, before-within, looked-at-most, looked-found, looked-all}

-- the first k entries have x, or do not
in-part : (x k : ℕ) (l : List ℕ) → k ≤ length l → frame_in x (take k l) < k → frame_in x l ≡ frame_in x (take k l)
unfolding frame_in
in-part x zero l le lt = absurd (omega arith)
in-part x (suc k) [] le lt = absurd (omega arith)
in-part x (suc k) (y ∷ ys) le lt = go (eqb y x) refl lt (in-part x k ys (omega arith))
  where
    go : (b : Bool) → eqb y x ≡ b → cond (eqb y x) 0 (suc (frame_in x (take k ys))) < suc k
        → (frame_in x (take k ys) < k → frame_in x ys ≡ frame_in x (take k ys))
        → cond (eqb y x) 0 (suc (frame_in x ys)) ≡ cond (eqb y x) 0 (suc (frame_in x (take k ys)))
    go true e lt ih = rw e
    go false e lt ih = rw e (ap (λ (p : ℕ). suc p) (ih (omega (arith, rw e at lt))))

past-part : (x k : ℕ) (l : List ℕ) → k ≤ length l → k ≤ frame_in x (take k l) → PassedBy x l k
unfolding frame_in
past-part x zero l le h = omega arith
past-part x (suc k) [] le h = absurd (omega arith)
past-part x (suc k) (y ∷ ys) le h = go (eqb y x) refl h (past-part x k ys (omega arith))
  where
    go : (b : Bool) → eqb y x ≡ b → suc k ≤ cond (eqb y x) 0 (suc (frame_in x (take k ys))) → (k ≤ frame_in x (take k ys) → PassedBy x ys k)
        → cond (eqb y x) 0 (suc (frame_in x ys)) ≡ suc k + frame_in x (drop k ys)
    go true e h ih = absurd (omega (arith, rw e at h))
    go false e h ih = rw e (omega (arith, ih (omega (arith, rw e at h))))

-- the walk along the entries from place i to before place end, x not being before them
module _ (x : ℕ) (l : List ℕ) (i end : ℕ) (passed : PassedBy x l i) (onward : i ≤ end) (inside : end ≤ length l)
    (w : Walk) (walk_is : w ≡ walk_of x (take (end - i) (drop i l))) where
  abbrev part : List ℕ
  part = take (end - i) (drop i l)

  room : end - i ≤ length (drop i l)
  room = omega (arith, length-drop i l)

  size : length part ≡ end - i
  size = length-take-le (end - i) (drop i l) room

  index : w.before ≡ frame_in x part
  index = before-is x part walk_is

  -- what the walk gives is within the list
  pub turn-before : i + w.before ≤ end
  turn-before = omega (arith, before-within x part walk_is, size)

  pub turn-most : i + w.looked ≤ end
  turn-most = omega (arith, looked-at-most x part walk_is, size)

  -- x is found: besides, all before this part were looked at
  pub turn-found : i + w.before < end → walked (i + w.before) (i + w.looked) ≡ walk_of x l
  turn-found lt =
      let here : i + w.before ≡ frame_in x l = omega (arith, passed, in-part x (end - i) (drop i l) room (omega (arith, index)), index) in
      let looked : i + w.looked ≡ suc (i + w.before) = omega (arith, looked-found x part walk_is (omega (arith, size))) in
      rw looked (walk-found x l (i + w.before) here (omega arith))

  -- it is not: all of this part was looked at
  pub turn-looked : end ≤ i + w.before → i + w.looked ≡ end
  turn-looked le = omega (arith, looked-all x part walk_is (omega (arith, size)), size)

  pub turn-passed : end ≤ i + w.before → PassedBy x l end
  turn-passed le =
      let at : i + (end - i) ≡ end = omega arith in
      omega (
        arith,
        passed,
        past-part x (end - i) (drop i l) room (omega (arith, index)),
        ap (λ (r : List ℕ). frame_in x r) (drop-drop (end - i) i l),
        ap (λ (k : ℕ). frame_in x (drop k l)) at,
      )

  -- the last part
  turn-none : end ≡ length l → end ≤ i + w.before → walked (i + w.before) (i + w.looked) ≡ walk_of x l
  turn-none all le =
      let before : i + w.before ≡ length l = omega (arith, before-within x part walk_is, size) in
      let looked : i + w.looked ≡ length l = omega (arith, turn-looked le) in
      rw (before, looked) (walk_none x l (length l) (omega (arith, turn-passed le, index-within x l)) refl)

  pub turn_last : end ≡ length l → walked (i + w.before) (i + w.looked) ≡ walk_of x l
  turn_last all = go (ltb (i + w.before) end) refl
    where
      go : (b : Bool) → ltb (i + w.before) end ≡ b → walked (i + w.before) (i + w.looked) ≡ walk_of x l
      go true e = turn-found (ltb-true (i + w.before) end e)
      go false e = turn-none all (ltb-false (i + w.before) end e)
