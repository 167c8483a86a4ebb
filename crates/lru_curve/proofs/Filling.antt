-- The misses simulated for each number of frames in turn: the start of the list, one number more, and its end.
use Prim.Native.Nat.{ℕ, suc, ◌+◌, ◌≤◌, ◌<◌}
use mathlib.Core.Path.{◌≡◌, refl, ap, ◌∙◌}
use mathlib.Core.List.{List, [], ◌++◌}
use native.Mathlib.Numerals.{add-one}
use native.Mathlib.Omega.{arith}
use lib.ListN.{length, drop, set, length-set}
use Rattle.model.specs.Sheets.{run_of}
use Rattle.replacement.specs.Memory.{lru_simulated}
use Rattle.replacement.proofs.Same.{simulated-same}
use Rattle.lru_curve.specs.inner.Left.{EveryRun, touch_run, BySimulation}
use Rattle.lru_curve.proofs.Writing.{from_front, front-next, front-end}

-- the list of misses, written as far as k frames
pub record Filled (sizes refs place place' : List ℕ) (k : ℕ) : Type 0 where
  pub within : k ≤ length sizes
  pub same_length : length place' ≡ length place
  pub place_is : place' ≡ from_front (length sizes) (λ j. lru_simulated (touch_run sizes refs) (suc j)) place k

module _ (sizes refs place : List ℕ) (room : length sizes ≤ length place) where
  pub filled_start : Filled sizes refs place place 0
  filled_start = record { within = omega arith; same_length = refl; place_is = refl }

  module _ (place' : List ℕ) (k : ℕ) (v : Filled sizes refs place place' k) where
    pub filled_next : (misses : ℕ) → k < length sizes → misses ≡ lru_simulated (touch_run sizes refs) (k + 1)
        → Filled sizes refs place (set place' k misses) (k + 1)
    filled_next misses more is =
        rw (add-one k)
        record {
          within = more;
          same_length = length-set place' k misses ∙ v.same_length;
          place_is =
              rw v.place_is
              (front-next (length sizes) (λ j. lru_simulated (touch_run sizes refs) (suc j)) place room k misses more
              (rw (add-one k) at is));
        }

    pub filled_end : length sizes ≤ k → EveryRun sizes refs (λ U. BySimulation U place place')
    filled_end done kind a =
        rw (v.place_is, front-end (length sizes) (λ j. lru_simulated (touch_run sizes refs) (suc j)) place room k v.within done)
        (ap (λ (q : List ℕ). q ++ drop (length sizes) place)
        (simulated-same (touch_run sizes refs) (run_of kind a sizes [] refs) refl refl))
