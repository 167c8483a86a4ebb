-- The schedule of the least total is the one by its decisions, so that the writer of schedules by decisions writes it.
use Prim.Native.Nat.{ℕ, zero, suc, ◌+◌, ◌-◌, ◌<◌}
use mathlib.Core.Path.{◌≡◌, refl, ap, ◌∙◌}
use mathlib.Core.Bool.{Bool, true, false, cond, ◌&&◌, ◌||◌}
use mathlib.Core.List.{List}
use native.Mathlib.Omega.{arith}
use Rattle.model.specs.Traces.{Trace, segs, steps, entry, touched}
use Rattle.model.specs.Figures.{kept}
use Rattle.model.specs.Schedules.{next_kept}
use Rattle.model.specs.Decisions.{next_decided, decided_held, decided_schedule, decisions_of}
use Rattle.model.proofs.Decisions.{held_bytes-eq, decided_schedule-eq}
use Rattle.stores.specs.Modtotal.{joins_before, next_marked, mod_held, mod_schedule}
use Rattle.stores.specs.inner.Decisions.{mod_kept}

module _ (T : Trace) (marks : ℕ → Bool) (h d : ℕ) where
  -- the next touch finds its segment held where it is kept, or the next modifying touch is joined
  next-mod : (k t i : ℕ) → t + k ≡ steps T
      → next_decided T (mod_kept T marks h d) k t i ≡ next_kept T h d k t i || next_marked T marks (joins_before T marks h d) k t i
  unfolding next_decided next_kept next_marked mod_kept
  next-mod zero t i e = refl
  next-mod (suc k) t i e = go (touched T t i) refl (next-mod k (suc t) i (omega arith))
    where
      go : (m : Bool) → touched T t i ≡ m
          → next_decided T (mod_kept T marks h d) k (suc t) i
          ≡ next_kept T h d k (suc t) i || next_marked T marks (joins_before T marks h d) k (suc t) i
          → cond (touched T t i) (mod_kept T marks h d t i) (next_decided T (mod_kept T marks h d) k (suc t) i)
          ≡ cond (touched T t i) (kept T h d t i) (next_kept T h d k (suc t) i)
          || cond (touched T t i && marks t) (joins_before T marks h d t i) (next_marked T marks (joins_before T marks h d) k (suc t) i)
      go true m again =
          let left : steps T - t ≡ suc k = omega arith in
          rw (left, m)
      go false m again = rw m again

  -- the schedule by `mod_kept` is the one of the least total
  pub decided-mod : decided_schedule T (mod_kept T marks h d) ≡ mod_schedule T marks h d
  unfolding decided_schedule decided_held mod_schedule mod_held
  decided-mod =
      held_bytes-eq (steps T) (decided_held T (mod_kept T marks h d)) (mod_held T marks h d)
      (λ t i lt. ap (λ b. touched T t i || b) (next-mod (steps T - suc t) (suc t) i (omega arith)))

  -- so is that by a list which tells of each touch whether it finds its segment held
  pub decisions-mod : (decisions : List Bool)
      → ((t : ℕ) → t < steps T → entry T t < segs T → decisions_of decisions t (entry T t) ≡ mod_kept T marks h d t (entry T t))
      → decided_schedule T (decisions_of decisions) ≡ mod_schedule T marks h d
  decisions-mod decisions told = decided_schedule-eq T (decisions_of decisions) (mod_kept T marks h d) told ∙ decided-mod
