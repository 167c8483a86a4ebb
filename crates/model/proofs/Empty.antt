-- P10 for every run: with no references, in any number of idle steps, and no warm segment, every figure from misses to mean is 0, at all
-- prices.
use Prim.Native.Nat.{ℕ, zero, suc, ◌*◌, ◌/◌, ◌≤◌, ◌<◌}
use mathlib.Core.Path.{◌≡◌, refl, sym, ◌∙◌}
use mathlib.Core.Bool.{Bool, true, false, cond, false≢true}
use mathlib.Core.Option.{none}
use native.Mathlib.Nat.{zero-div}
use native.Mathlib.Omega.{arith}
use lib.Dec.{eqb, ltb}
use borrow.Author.Tests.{ltb-true, ltb-false}
use Rattle.model.specs.Traces.{Trace, segs, steps, size_of, entry, touched, touching, over_touches, refs_by, refs_of, later}
use Rattle.model.specs.Traces.{unreferenced}
use Rattle.model.specs.Figures.{misses, volume, load, optmem, opttotal, optocc, wsmem, wsocc, mean}
use Rattle.model.specs.Figures.{ref_cost, ref_volume, smaller, wsspace, mean_divisor}
use Rattle.model.specs.declared.Kind.{Kind}
use Rattle.model.specs.declared.Kind.TheVariants.{Time, Space}
use Rattle.model.proofs.Sums.{sum-zero, term-le}
use Rattle.model.proofs.Touches.{touched-at, touching_at, touching-idle, idle-touched}

-- every figure from misses to mean is 0
pub record AllZero (T : Trace) (h d : ℕ) : Type 0 where
  pub no_misses : misses T h d ≡ 0
  pub no_volume : volume T h d ≡ 0
  pub no_load : load T h d ≡ 0
  pub no_optmem : optmem T h d ≡ 0
  pub no_opttotal : opttotal T h d ≡ 0
  pub no_optocc : optocc T h d ≡ 0
  pub no_wsmem : wsmem T h d ≡ 0
  pub no_wsocc : wsocc T h d ≡ 0
  pub no_mean : mean T h d ≡ 0

-- no step touches a segment: then refs is 0
pub untouched-refs : (T : Trace) → ((t i : ℕ) → t < steps T → touched T t i ≡ false) → refs_of T ≡ 0
unfolding refs_by touching
untouched-refs T idle = sum-zero (steps T) (touching T (λ s i. 1)) (λ t lt. go t lt (ltb (entry T t) (segs T)) refl)
  where
    go : (t : ℕ) → t < steps T → (b : Bool) → ltb (entry T t) (segs T) ≡ b → touching T (λ s i. 1) t ≡ 0
    go t lt true e =
        absurd (false≢true (sym (idle t (entry T t) lt) ∙ touched-at T t (ltb-true (entry T t) (segs T) e)))
    go t lt false e = rw e

-- the premises of P10: refs is 0, whatever the number of steps, and no segment is warm
module _ (T : Trace) (none-touched : refs_of T ≡ 0) (fresh : (i : ℕ) → T.start i ≡ false) (h d : ℕ) where
  -- every step is idle
  all-idle : (t : ℕ) → t < steps T → segs T ≤ entry T t
  unfolding refs_by
  all-idle t lt = go (ltb (entry T t) (segs T)) refl
    where
      go : (b : Bool) → ltb (entry T t) (segs T) ≡ b → segs T ≤ entry T t
      go true e =
          let one = touching_at T (λ s i. 1) t (ltb-true (entry T t) (segs T) e) in
          absurd (omega (arith, none-touched, one, term-le (steps T) t (touching T (λ s i. 1)) lt))
      go false e = ltb-false (entry T t) (segs T) e

  no-touches : (f : ℕ → ℕ → ℕ) → over_touches T f ≡ 0
  no-touches f = sum-zero (steps T) (touching T f) (λ t lt. touching-idle T f t (all-idle t lt))

  -- no segment is ever touched
  untouched : (t i : ℕ) → t ≤ steps T → unreferenced T t i ≡ none
  unfolding unreferenced later
  untouched zero i le = rw (fresh i)
  untouched (suc t) i le = rw (idle-touched T t i (all-idle t (omega arith)), untouched t i (omega arith))

  -- no segment has an end interval
  no_end : (i : ℕ) → smaller T h d (steps T) i ≡ 0
  unfolding smaller
  no_end i = rw (untouched (steps T) i (omega arith))

  zero-wsmem : wsmem T h d ≡ 0
  unfolding wsmem ref_cost
  zero-wsmem =
      simp (no-touches, sum-zero (segs T) (λ i. smaller T h d (steps T) i) (λ i lt. no_end i)) (omega arith)

  zero-wsspace : wsspace T h d ≡ 0
  unfolding wsspace ref_volume
  zero-wsspace =
      simp (no-touches, sum-zero (segs T) (λ i. size_of T i * smaller T h d (steps T) i) (λ i lt. rw (no_end i) (omega arith)))
      (omega arith)

  zero-wsocc : wsocc T h d ≡ 0
  unfolding wsocc
  zero-wsocc = go T.kind
    where
      go : (k : Kind) → ◌≡◌ {A = ℕ} (elim k [ Time ↦ wsspace T h d | Space ↦ wsmem T h d ]) 0
      go Time = zero-wsspace
      go Space = zero-wsmem

  -- 0 divided by any number
  zero-mean : (b : Bool) → cond b 0 (1000 * wsocc T h d / mean_divisor T d) ≡ 0
  zero-mean true = refl
  zero-mean false = rw zero-wsocc (zero-div (mean_divisor T d))

  pub empty-zero : AllZero T h d
  unfolding misses volume load optmem opttotal optocc ref_cost ref_volume mean
  empty-zero =
      record {
        no_misses = simp no-touches;
        no_volume = simp no-touches;
        no_load = simp no-touches (omega arith);
        no_optmem = simp no-touches (omega arith);
        no_opttotal = simp no-touches (omega arith);
        no_optocc = simp no-touches (omega arith);
        no_wsmem = zero-wsmem;
        no_wsocc = zero-wsocc;
        no_mean = zero-mean (eqb (steps T) 0);
      }
