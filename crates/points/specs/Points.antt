-- Every operating point of a run (request F-11): the distinct ratios R/w of its reuses, ascending, and optmem and load at each.
use Rattle.std.specs.Prelude.{ℕ, zero, suc, ◌*◌, ◌<◌, ◌≡◌, Bool, true, cond, ◌&&◌, List, [], ◌∷◌, ◌++◌, eqb, ltb, length, get_or}
use Rattle.model.specs.Traces.{Trace, segs, steps, entry, swap_of, unreferenced}
use Rattle.model.specs.Figures.{is_reuse, retention_of, optmem, load}

-- a ratio R/w
pub record Ratio : Type 0 where
  pub R : ℕ
  pub w : ℕ

-- one ratio is below another, or the two are equal: by cross products
abbrev pub below : Ratio → Ratio → Bool
below p q = ltb (p.R * q.w) (q.R * p.w)

abbrev pub same : Ratio → Ratio → Bool
same p q = eqb (p.R * q.w) (q.R * p.w)

-- x put into an ascending list, unless one equal to it is there
unfoldable pub insert : Ratio → List Ratio → List Ratio
insert x [] = x ∷ []
insert x (y ∷ ys) = cond (below x y) (x ∷ y ∷ ys) (cond (same x y) (y ∷ ys) (y ∷ insert x ys))

-- the step at place t ends a reuse
abbrev pub reuses : Trace → ℕ → Bool
reuses T t = ltb (entry T t) (segs T) && is_reuse (unreferenced T t (entry T t))

-- the ratio of that reuse
abbrev pub ratio_at : Trace → ℕ → Ratio
ratio_at T t = record { R = retention_of T t (entry T t); w = swap_of T (entry T t) }

-- the distinct ratios of the reuses that the first n steps end, put in one after another: of equal ones the earliest stays
unfoldable pub ratios : Trace → ℕ → List Ratio
ratios T zero = []
ratios T (suc t) = cond (reuses T t) (insert (ratio_at T t) (ratios T t)) (ratios T t)

-- 0 and 1
abbrev pub zero_one : Ratio
zero_one = record { R = 0; w = 1 }

-- the thresholds of the operating points: the ratios, and 0 and 1 in front where none is 0
unfoldable pub thresholds : Trace → List Ratio
thresholds T = insert zero_one (ratios T (steps T))

-- threshold k, and optmem and load there
abbrev pub threshold_at : Trace → ℕ → Ratio
threshold_at T k = get_or (thresholds T) k zero_one

abbrev pub point_memory : Trace → ℕ → ℕ
point_memory T k = optmem T (threshold_at T k).R (threshold_at T k).w

abbrev pub point_load : Trace → ℕ → ℕ
point_load T k = load T (threshold_at T k).R (threshold_at T k).w

-- the first n points as numbers: of each R, w, optmem and load
unfoldable pub point_numbers : Trace → ℕ → List ℕ
point_numbers T zero = []
point_numbers T (suc k) = point_numbers T k ++ ((threshold_at T k).R ∷ (threshold_at T k).w ∷ point_memory T k ∷ point_load T k ∷ [])

-- all points
unfoldable pub operating_points : Trace → List ℕ
operating_points T = point_numbers T (length (thresholds T))

-- that one ratio is below another, or equal to it
abbrev pub LessRatio : Ratio → Ratio → Type 0
LessRatio p q = p.R * q.w < q.R * p.w

abbrev pub EqualRatio : Ratio → Ratio → Type 0
EqualRatio p q = p.R * q.w ≡ q.R * p.w

-- a list of ratios has one equal to x
pub record Has (l : List Ratio) (x : Ratio) : Type 0 where
  pub place : ℕ
  pub within : place < length l
  pub equal : EqualRatio (get_or l place zero_one) x

-- x is the ratio of a reuse that the first n steps end, and of none before it
pub record Earliest (T : Trace) (n : ℕ) (x : Ratio) : Type 0 where
  pub step : ℕ
  pub before : step < n
  pub reuse : reuses T step ≡ true
  pub exact : x ≡ ratio_at T step
  pub first : (s : ℕ) → s < step → reuses T s ≡ true → EqualRatio (ratio_at T s) x → ⊥
