-- What request F-11 says of the operating points of a run, as one statement.
use Rattle.std.specs.Prelude.{ℕ, suc, ◌+◌, ◌-◌, ◌*◌, ◌≤◌, ◌<◌, ◌≡◌, true, ◌⊎◌, List, length}
use Rattle.model.specs.Traces.{Trace, segs, steps, touched}
use Rattle.model.specs.Figures.{kept, optmem, load}
use Rattle.model.specs.Schedules.{Permitted, schedule_memory, schedule_load}
use Rattle.points.specs.Points.{Ratio, reuses, ratio_at, zero_one, thresholds, threshold_at, point_memory, point_load}
use Rattle.points.specs.Points.{LessRatio, EqualRatio, Has}
use Rattle.points.specs.Points.{Earliest}

-- 0 and 1, and no reuse has the ratio 0
pub record NoZero (T : Trace) (x : Ratio) : Type 0 where
  pub is_zero : x ≡ zero_one
  pub no_reuse : (s : ℕ) → s < steps T → reuses T s ≡ true → EqualRatio (ratio_at T s) zero_one → ⊥

-- prices of at least threshold k, and below the next where there is one
pub record FromThreshold (T : Trace) (k h d : ℕ) : Type 0 where
  pub there : k < length (thresholds T)
  pub price : 1 ≤ d
  pub from : (threshold_at T k).R * d ≤ h * (threshold_at T k).w
  pub to : suc k < length (thresholds T) → h * (threshold_at T (suc k)).w < (threshold_at T (suc k)).R * d

-- the list of thresholds says all there is, and the lines through neighbouring points bound every permitted schedule
pub record Curve (T : Trace) : Type 0 where
  -- ascending, so no two are equal
  pub ascending : (k : ℕ) → suc k < length (thresholds T) → LessRatio (threshold_at T k) (threshold_at T (suc k))
  -- every reuse's ratio is in the list
  pub complete : (s : ℕ) → s < steps T → reuses T s ≡ true → Has (thresholds T) (ratio_at T s)
  -- every entry is the R and w of the earliest reuse having it, or 0 and 1 where no reuse has the ratio 0
  pub of_run : (k : ℕ) → k < length (thresholds T) → NoZero T (threshold_at T k) ⊎ Earliest T (steps T) (threshold_at T k)
  -- there is an entry, and the first is 0: no prices are below it
  pub some_entry : 1 ≤ length (thresholds T)
  pub zero_first : (threshold_at T 0).R ≡ 0
  -- a place for as many entries as steps suffices, for 1 where there is no step
  pub place : (m : ℕ) → 1 ≤ m → steps T ≤ m → length (thresholds T) ≤ m
  -- at any prices the greatest threshold not above theirs is one of the list
  pub found : (h d : ℕ) → 1 ≤ d → (k : ℕ) × FromThreshold T k h d
  -- between neighbours the keep decisions do not change, nor beyond the last
  pub decisions : (k h d : ℕ) → FromThreshold T k h d → (t i : ℕ) → t < steps T → i < segs T → touched T t i ≡ true
      → kept T h d t i ≡ kept T (threshold_at T k).R (threshold_at T k).w t i
  pub memory : (k h d : ℕ) → FromThreshold T k h d → optmem T h d ≡ point_memory T k
  pub loads : (k h d : ℕ) → FromThreshold T k h d → load T h d ≡ point_load T k
  -- the next point has more memory and less load
  pub memory_rises : (k : ℕ) → suc k < length (thresholds T) → point_memory T k < point_memory T (suc k)
  pub load_drops : (k : ℕ) → suc k < length (thresholds T) → point_load T (suc k) < point_load T k
  -- every permitted schedule lies on or above the line through neighbouring points
  pub lines : (k : ℕ) → suc k < length (thresholds T) → (p : List ℕ) → Permitted T p
      → (point_memory T (suc k) - point_memory T k) * point_load T k + (point_load T k - point_load T (suc k)) * point_memory T k
      ≤ (point_memory T (suc k) - point_memory T k) * schedule_load T p + (point_load T k - point_load T (suc k)) * schedule_memory T p
