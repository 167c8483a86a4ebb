-- The memory of k frames kept in the order of last touches, as crate lru_curve keeps it: it has the first k of the recency list.
use Prim.Native.Nat.{ℕ, zero, suc}
use mathlib.Core.Path.{◌≡◌, refl}
use mathlib.Core.Bool.{Bool, true, false, cond}
use mathlib.Core.List.{List, [], ◌∷◌}
use native.Mathlib.Omega.{arith}
use lib.Dec.{ltb}
use lib.ListN.{take}
use lib.Seq.{take-take}
use Rattle.model.specs.Traces.{Trace, segs, entry}
use Rattle.replacement.specs.Memory.{has}
use Rattle.replacement.specs.Orders.{without, to_front, after_step}
use Rattle.replacement.specs.Recency.{recency}
use Rattle.replacement.proofs.Orders.{hit-take, miss-take}

-- after a touch of x, the segments in the order of their last touches, the latest first: a hit brings x to the front; a miss loads it
-- there, and the last goes where there were k already
unfoldable pub reordered : ℕ → ℕ → List ℕ → List ℕ
reordered k x m = cond (has x m) (to_front x m) (take k (x ∷ m))

-- after t steps, empty at first
unfoldable pub ordered : Trace → ℕ → ℕ → List ℕ
ordered T k zero = []
ordered T k (suc t) = after_step T (reordered k) t (ordered T k t)

-- one touch: a memory that has the first k of a list has the first k of the list with x brought to the front
reordered-take : (k x : ℕ) (l : List ℕ) → reordered k x (take k l) ≡ take k (to_front x l)
unfolding reordered has
reordered-take zero x l = refl
reordered-take (suc k) x l = go (has x (take (suc k) l)) refl
  where
    go : (b : Bool) → has x (take (suc k) l) ≡ b
        → cond (has x (take (suc k) l)) (to_front x (take (suc k) l)) (x ∷ take k (take (suc k) l)) ≡ x ∷ take k (without x l)
    go true e = rw (e, hit-take k x l e)
    go false e = rw (e, miss-take k x l e, take-take k (suc k) l (omega arith))

module _ (T : Trace) where
  -- it has the first k of the recency list
  pub inclusion : (k t : ℕ) → ordered T k t ≡ take k (recency T t)
  unfolding ordered recency
  inclusion zero zero = refl
  inclusion (suc k) zero = refl
  inclusion k (suc t) = rw (inclusion k t) (go (ltb (entry T t) (segs T)) refl)
    where
      go : (b : Bool) → ltb (entry T t) (segs T) ≡ b
          → cond (ltb (entry T t) (segs T)) (reordered k (entry T t) (take k (recency T t))) (take k (recency T t))
          ≡ take k (cond (ltb (entry T t) (segs T)) (to_front (entry T t) (recency T t)) (recency T t))
      go true e = rw e (reordered-take k (entry T t) (recency T t))
      go false e = rw e
