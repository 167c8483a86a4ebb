-- What a run is: its segments, and the segment touched in each step. Step t + 1 of document 01, which counts from 1,
-- is the step at place t here; after t steps is the moment just before it.
use Rattle.std.specs.Prelude.{ℕ, zero, suc, pred, Bool, cond, ◌&&◌, List, length, get_or, eqb, leb, ltb}
use Rattle.std.proofs.Math.Option.{Option, none, some}
use Rattle.model.specs.Costs.{swap_cost, unit_cost}
use Rattle.model.specs.Sums.{sum}
use Rattle.model.specs.declared.Kind.{Kind}

-- kind, weight a, sizes of segments 0, 1, 2 .., and the entry of each step; `start` says which segments count as touched and held
-- before step 1
pub record Trace : Type 0 where
  pub kind : Kind
  pub a : ℕ
  pub sizes : List ℕ
  pub start : ℕ → Bool
  pub entries : List ℕ

-- how many segments there are
abbrev pub segs : Trace → ℕ
segs T = length T.sizes

-- how many steps there are
abbrev pub steps : Trace → ℕ
steps T = length T.entries

-- z: the size of segment i
abbrev pub size_of : Trace → ℕ → ℕ
size_of T i = get_or T.sizes i 0

-- w: the swap cost of segment i
abbrev pub swap_of : Trace → ℕ → ℕ
swap_of T i = swap_cost T.a (size_of T i)

-- what segment i costs in memory units for one step: 1 (kind time) or z (kind space)
abbrev pub unit_of : Trace → ℕ → ℕ
unit_of T i = unit_cost T.kind (size_of T i)

-- the entry of the step at place t
abbrev pub entry : Trace → ℕ → ℕ
entry T t = get_or T.entries t (segs T)

-- segment i is touched in the step at place t; an entry that is no segment number touches nothing
abbrev pub touched : Trace → ℕ → ℕ → Bool
touched T t i = ltb i (segs T) && eqb (entry T t) i

-- what the step at place t adds where a touch of segment i in it adds f t i: nothing where it touches nothing
unfoldable pub touching : Trace → (ℕ → ℕ → ℕ) → ℕ → ℕ
touching T f t = cond (ltb (entry T t) (segs T)) (f t (entry T t)) 0

-- the sum of f t i over all touches, t the place of the step and i the segment
abbrev pub over_touches : Trace → (ℕ → ℕ → ℕ) → ℕ
over_touches T f = sum (steps T) (touching T f)

-- how many of the first t steps have a touch
unfoldable pub refs_by : Trace → ℕ → ℕ
refs_by T t = sum t (touching T (λ s i. 1))

-- refs: how many references there are
abbrev pub refs_of : Trace → ℕ
refs_of T = refs_by T (steps T)

-- the place of the n-th reference, counted from 1, among the k steps from place t on
unfoldable pub ref_place : Trace → ℕ → ℕ → ℕ → ℕ
ref_place T zero t n = t
ref_place T (suc k) t n =
    cond (ltb (entry T t) (segs T)) (cond (leb n 1) t (ref_place T k (suc t) (pred n))) (ref_place T k (suc t) n)

-- the place of the n-th reference
abbrev pub place_of : Trace → ℕ → ℕ
place_of T n = ref_place T (steps T) 0 n

-- the sum of f i over all segments i
abbrev pub over_segments : Trace → (ℕ → ℕ) → ℕ
over_segments T f = sum (segs T) f

-- one step more
unfoldable pub later : Option ℕ → Option ℕ
later none = none
later (some k) = some (suc k)

-- unreferenced time of segment i after t steps: the steps since its last touch, u − 1 where the next step touches it; none where it
-- was not touched yet
unfoldable pub unreferenced : Trace → ℕ → ℕ → Option ℕ
unreferenced T zero i = cond (T.start i) (some 0) none
unreferenced T (suc t) i = cond (touched T t i) (some 0) (later (unreferenced T t i))
