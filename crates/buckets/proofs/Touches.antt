-- One touch: its limits, what the mark of its segment tells, and the buckets of the definitions as those of touches.
use Prim.Native.Nat.{ℕ, ◌-◌, ◌^◌, ◌≤◌, ◌<◌}
use mathlib.Core.Path.{◌≡◌, refl}
use mathlib.Core.Bool.{Bool, true, false, cond}
use mathlib.Core.List.{List}
use mathlib.Core.Option.{Option, none, some}
use native.Mathlib.Omega.{arith}
use Rattle.std.specs.Prelude.{None, Some, is_some}
use Rattle.std.specs.Prelude.{Option as Given}
use Rattle.std.specs.Option.{SomeIff, IsSomeAnd, MatchOption}
use Rattle.model.specs.Figures.{of_time, is_reuse}
use lib.Dec.{ltb, leb}
use borrow.Author.Tests.{le-leb, lt-leb}
use Rattle.model.specs.Costs.{retention, swap_cost}
use Rattle.model.specs.Traces.{Trace, segs, steps, entry, size_of, touching, unreferenced}
use Rattle.model.specs.declared.Kind.{Kind}
use Rattle.model.specs.declared.MemoryUnits.{MemoryUnits}
use Rattle.model.specs.declared.PriceRow.{PriceRow}
use Rattle.model.proofs.Bounds.{retention_within, swap_within}
use Rattle.model.proofs.Units.{memory_is}
use Rattle.buckets.specs.Buckets.{bucket_of, filed, bucket_after, ended, end_bucket}
use Rattle.buckets.specs.FirstRow.{last_bucket, first_row}
use Rattle.buckets.specs.inner.Pass.{retention_if, touch_of, unplaced, Limited}
use Rattle.buckets.specs.inner.Search.{retained, time_since, touch_bucket, Priceable}
use Rattle.buckets.specs.declared.pass.Touch.{Touch}
use Rattle.buckets.proofs.Filling.{gathered, bucket_over}

-- a touch has the retention of its unreferenced time, and a reuse is what has one
pub retained-is : (kind : Kind) (z : ℕ) (o : Option ℕ) → retained (retention_if kind z o) ≡ of_time (retention kind z) o
retained-is kind z none = refl
retained-is kind z (some n) = refl

pub is_some-is : (kind : Kind) (z : ℕ) (o : Option ℕ) → is_some (retention_if kind z o) ≡ is_reuse o
is_some-is kind z none = refl
is_some-is kind z (some n) = refl

-- the retention that the steps since the mark of a segment give
pub retention-is : (kind : Kind) (z n mark : ℕ) (o : Given ℕ) (r : Given MemoryUnits) → SomeIff o (mark ≤ n) (n - mark)
    → (Q : ℕ → MemoryUnits → Type 0) → MatchOption o (r ≡ None) (λ k. IsSomeAnd r (Q k))
    → ((k : ℕ) (R : MemoryUnits) → Q k R → R.0 ≡ retention kind z k) → r ≡ retention_if kind z (time_since n mark)
retention-is kind z n mark None r beyond Q is gives = rw (lt-leb mark n (omega arith)) is
retention-is kind z n mark (Some k) None within Q is gives = absurd is
retention-is kind z n mark (Some k) (Some R) within Q is gives =
    rw (le-leb mark n within.0, ← within.1, memory_is (gives k R is)) refl

-- a touch with its bucket
abbrev pub placed : Touch → ℕ → Touch
placed x k = record { size = x.size; retention = x.retention; swap = x.swap; bucket = k }

pub placed-limited : (x : Touch) (k : ℕ) → Limited x → k ≤ last_bucket → Limited (placed x k)
placed-limited x k l le =
    record { is_bucket = le; size_within = l.size_within; retention_within = l.retention_within; swap_within = l.swap_within }

-- the limits of a touch before its bucket is looked for
pub unplaced-limited : (kind : Kind) (a z n mark : ℕ) → a < 2 ^ 8 → z < 2 ^ 16 → n < 2 ^ 16
    → Limited (unplaced kind a z (time_since n mark))
unfolding unplaced
unplaced-limited kind a z n mark a_fits z_fits n_fits =
    record {
      is_bucket = omega arith;
      size_within = z_fits;
      retention_within = rw (retained-is kind z (time_since n mark)) (time-within (leb mark n));
      swap_within = swap_within a z a_fits z_fits;
    }
  where
    time-within : (b : Bool) → of_time (retention kind z) (cond b (some (n - mark)) none) < 2 ^ 32
    time-within true = retention_within kind z (n - mark) z_fits (omega arith)
    time-within false = omega arith

-- its costs can be priced
pub touch-priceable : (x : Touch) → Limited x → Priceable (retained x.retention) x.swap.0
touch-priceable x l =
    record { retention_within = omega (arith, l.retention_within); swap_within = omega (arith, l.swap_within) }

bucket-is : (kind : Kind) (a : ℕ) (rows : List PriceRow) (z : ℕ) (o : Option ℕ)
    → touch_bucket rows (retention_if kind z o) (record { 0 = swap_cost a z })
    ≡ cond (is_reuse o) (first_row rows 0 (of_time (retention kind z) o) (swap_cost a z)) last_bucket
bucket-is kind a rows z none = refl
bucket-is kind a rows z (some n) = refl

pub placed-is : (kind : Kind) (a : ℕ) (rows : List PriceRow) (z : ℕ) (o : Option ℕ) (x : Touch) (k : ℕ) → x ≡ unplaced kind a z o
    → k ≡ touch_bucket rows x.retention x.swap → placed x k ≡ touch_of kind a rows z o
unfolding touch_of unplaced
placed-is kind a rows z o x k is bucket = rw (bucket, is, bucket-is kind a rows z o) refl

-- the touch of segment i after t steps
abbrev pub touch_at : List PriceRow → Trace → ℕ → ℕ → Touch
touch_at rows T t i = touch_of T.kind T.a rows (size_of T i) (unreferenced T t i)

-- the step at place t touches a segment
abbrev pub touches : Trace → ℕ → Bool
touches T t = ltb (entry T t) (segs T)

-- the buckets of the definitions are those of the touches in the steps, and of the end intervals of the segments
pub bucket_after-over : (rows : List PriceRow) (T : Trace) (n k : ℕ)
    → bucket_after rows T n k ≡ bucket_over (touches T) (λ t. touch_at rows T t (entry T t)) n k
unfolding bucket_after bucket_over filed gathered touching bucket_of touch_of
bucket_after-over rows T n k = simp retained-is

pub end_bucket-over : (rows : List PriceRow) (T : Trace) (m k : ℕ)
    → end_bucket rows T m k
    ≡ bucket_over (λ i. is_some (touch_at rows T (steps T) i).retention) (λ i. touch_at rows T (steps T) i) m k
unfolding end_bucket bucket_over ended gathered bucket_of touch_of
end_bucket-over rows T m k = simp (retained-is, is_some-is)
