-- The figures of a run at the prices h (of one load unit) and d (of one memory unit), as document 01 and Denning and Slutz (1978)
-- define them.
use Rattle.std.specs.Prelude.{ℕ, ◌+◌, ◌*◌, ◌/◌, min, Bool, true, false, cond, eqb, ℤ}
use Rattle.std.proofs.Math.Option.{Option, none, some}
use Rattle.model.specs.Costs.{keeps, total_cost, retention, margin_of}
use Rattle.model.specs.Traces.{Trace, steps, size_of, swap_of, unit_of, over_touches, over_segments, unreferenced}
use Rattle.model.specs.declared.Kind.TheVariants.{Time, Space}

-- Q: each reference costs 1 memory unit (kind time) or z (kind space)
unfoldable pub ref_cost : Trace → ℕ
ref_cost T = over_touches T (λ t i. unit_of T i)

-- V: the sizes referenced
unfoldable pub ref_volume : Trace → ℕ
ref_volume T = over_touches T (λ t i. size_of T i)

-- f of the unreferenced time, 0 where there is none
abbrev pub of_time : (ℕ → ℕ) → Option ℕ → ℕ
of_time f none = 0
of_time f (some k) = f k

-- R of segment i after t steps: a reuse's retention where the next step touches it; 0 where there is none
abbrev pub retention_of : Trace → ℕ → ℕ → ℕ
retention_of T t i = of_time (retention T.kind (size_of T i)) (unreferenced T t i)

-- the same in space, (u − 1) × z
abbrev pub space_of : Trace → ℕ → ℕ → ℕ
space_of T t i = of_time (λ k. k * size_of T i) (unreferenced T t i)

-- whether there is an earlier touch
abbrev pub is_reuse : Option ℕ → Bool
is_reuse none = false
is_reuse (some k) = true

-- a touch of segment i in the step at place t is kept: it is a reuse with d × R ≤ h × w. A first touch is not
unfoldable pub kept : Trace → ℕ → ℕ → ℕ → ℕ → Bool
kept T h d t i =
    cond (is_reuse (unreferenced T t i)) (keeps (d * retention_of T t i) (h * swap_of T i)) false

-- the margin of a touch of segment i in the step at place t: h × w − d × R, signed. A first touch has none
abbrev pub margin_at : Trace → ℕ → ℕ → ℕ → ℕ → ℤ
margin_at T h d t i = margin_of (d * retention_of T t i) (h * swap_of T i)

-- misses: references not kept, first touches included
unfoldable pub misses : Trace → ℕ → ℕ → ℕ
misses T h d = over_touches T (λ t i. cond (kept T h d t i) 0 1)

-- volume: the sizes of the misses
unfoldable pub volume : Trace → ℕ → ℕ → ℕ
volume T h d = over_touches T (λ t i. cond (kept T h d t i) 0 (size_of T i))

-- load: misses + a × volume
unfoldable pub load : Trace → ℕ → ℕ → ℕ
load T h d = misses T h d + T.a * volume T h d

-- optmem: Q plus R of the kept reuses
unfoldable pub optmem : Trace → ℕ → ℕ → ℕ
optmem T h d = ref_cost T + over_touches T (λ t i. cond (kept T h d t i) (retention_of T t i) 0)

-- opttotal: d × optmem + h × load
unfoldable pub opttotal : Trace → ℕ → ℕ → ℕ
opttotal T h d = total_cost h d (optmem T h d) (load T h d)

-- optocc: V plus (u − 1) × z of the kept reuses
unfoldable pub optocc : Trace → ℕ → ℕ → ℕ
optocc T h d = ref_volume T + over_touches T (λ t i. cond (kept T h d t i) (space_of T t i) 0)

-- the smaller of d × R and h × w for segment i after t steps; none where it was not touched yet
unfoldable pub smaller : Trace → ℕ → ℕ → ℕ → ℕ → ℕ
smaller T h d t i =
    cond (is_reuse (unreferenced T t i)) (min (d * retention_of T t i) (h * swap_of T i)) 0

-- wsmem: d × Q plus the smaller of d × R and h × w, over all reuses and end intervals. An end interval is as if the segment were
-- touched once more at step steps + 1 (F-3, in place of document 01's refs + 1); a never-touched segment has none
unfoldable pub wsmem : Trace → ℕ → ℕ → ℕ
wsmem T h d =
    d * ref_cost T + over_touches T (λ t i. smaller T h d t i) + over_segments T (λ i. smaller T h d (steps T) i)

-- d × V plus z × that smaller value, over the same
unfoldable pub wsspace : Trace → ℕ → ℕ → ℕ
wsspace T h d =
    d * ref_volume T + over_touches T (λ t i. size_of T i * smaller T h d t i) + over_segments T
    (λ i. size_of T i * smaller T h d (steps T) i)

-- wsocc: as wsmem for kind space; for kind time d × V plus z × that smaller value
unfoldable pub wsocc : Trace → ℕ → ℕ → ℕ
wsocc T h d = elim T.kind [ Time ↦ wsspace T h d | Space ↦ wsmem T h d ]

-- what the mean divides by: d × steps
abbrev pub mean_divisor : Trace → ℕ → ℕ
mean_divisor T d = d * steps T

-- mean: 1,000 × wsocc divided by d × steps, rounded down; 0 when steps is 0 (F-3: over steps, in place of document 01's references)
unfoldable pub mean : Trace → ℕ → ℕ → ℕ
mean T h d = cond (eqb (steps T) 0) 0 (1000 * wsocc T h d / mean_divisor T d)
