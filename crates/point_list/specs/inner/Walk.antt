-- The walk along sorted keys: where the quotient changes one point ends and the next begins.
use Rattle.std.specs.Prelude.{ℕ, zero, suc, ◌+◌, ◌-◌, ◌*◌, ◌/◌, ◌%◌, ◌^◌, ◌≤◌, ◌<◌, cond, ◌&&◌, List, [], ◌∷◌, ◌++◌, eqb, ltb, length}
use Rattle.std.specs.Prelude.{get_or, replicate}
use Rattle.model.specs.Sheets.{most_steps}
use Rattle.model.specs.Sums.{sum}
use Rattle.points.specs.Points.{Ratio}
use Rattle.point_list.specs.inner.Held.{ratio, ratio_in}
use Rattle.point_list.specs.inner.Keys.{numbers}

-- places for the reuses, and nothing in them
abbrev pub places : ℕ
places = most_steps

unfoldable pub nothing : List ℕ
nothing = replicate places 0

-- the quotient of key i, and the number of its reuse
abbrev pub quotient_at : List ℕ → ℕ → ℕ
quotient_at keys i = get_or keys i 0 / numbers

abbrev pub reuse_at : List ℕ → ℕ → ℕ
reuse_at keys i = get_or keys i 0 % numbers

-- the quotient of the key before, 0 before the first
unfoldable pub before_at : List ℕ → ℕ → ℕ
before_at keys zero = 0
before_at keys (suc i) = quotient_at keys i

-- how many points ended before key i
unfoldable pub ended : List ℕ → ℕ → ℕ
ended keys zero = 0
ended keys (suc i) = cond (eqb (quotient_at keys i) (before_at keys i)) (ended keys i) (suc (ended keys i))

-- w of the first point: that of the first of n keys where its quotient is 0, else 1
abbrev pub first_cost : List ℕ → List ℕ → ℕ → ℕ
first_cost ws keys n = cond (ltb 0 n && ltb (get_or keys 0 0) numbers) (get_or ws (get_or keys 0 0) 0) 1

module _ (rs ws keys : List ℕ) (memory load n : ℕ) where
  -- R and w of the point that has not ended before key i
  unfoldable pub leader : ℕ → Ratio
  leader zero = ratio 0 (first_cost ws keys n)
  leader (suc i) = cond (eqb (quotient_at keys i) (before_at keys i)) (leader i) (ratio_in rs ws (reuse_at keys i))

  -- memory and load with the reuses of the first i keys kept
  abbrev pub memory_to : ℕ → ℕ
  memory_to i = memory + sum i (λ k. get_or rs (reuse_at keys k) 0)

  abbrev pub load_to : ℕ → ℕ
  load_to i = load - sum i (λ k. get_or ws (reuse_at keys k) 0)

  -- that point as four numbers
  abbrev pub point_at : ℕ → List ℕ
  point_at i = (leader i).R ∷ (leader i).w ∷ memory_to i ∷ load_to i ∷ []

  -- the points that ended before key i, and all of them
  unfoldable pub points_to : ℕ → List ℕ
  points_to zero = []
  points_to (suc i) = cond (eqb (quotient_at keys i) (before_at keys i)) (points_to i) (points_to i ++ point_at i)

  abbrev pub points_of : List ℕ
  points_of = points_to n ++ point_at n

  -- R of the reuses can be added to the memory, and w taken from the load
  pub record Summable : Type 0 where
    pub few : n ≤ places
    pub keys_long : n ≤ length keys
    pub rs_long : places ≤ length rs
    pub ws_long : places ≤ length ws
    pub memory_small : memory_to n < 2 ^ 64
    pub cost_within : sum n (λ k. get_or ws (reuse_at keys k) 0) ≤ load

  -- and a place has room for the points
  pub record Writable (out : List ℕ) : Type 0 where
    pub sums : Summable
    pub room : 4 * suc (ended keys n) ≤ length out
