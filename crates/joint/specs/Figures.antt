-- What the figures and the optimal schedule of a joint sheet are by those of the two sheets (request F-7).
use Rattle.std.specs.Prelude.{ℕ, ◌+◌, ◌≤◌, ◌<◌, ◌≡◌, false, length}
use Rattle.model.specs.Figures.{misses, volume, load, optmem, opttotal, optocc, wsmem, wsocc}
use Rattle.model.specs.Schedules.{optimal_held}
use Rattle.model.specs.Sheets.{SheetValue, trace_of}
use Rattle.model.specs.Traces.{Trace, segs, steps}
use Rattle.joint.specs.Joint.{joined}

-- the run of the joint sheet
abbrev pub joint_run : SheetValue → SheetValue → Trace
joint_run v w = trace_of (joined v w)

-- at the prices h and d. The working set's figures are worked out afresh, since the shorter record's segments linger: end intervals reach
-- the greater number of steps + 1
pub record JointFigures (v w : SheetValue) (h d : ℕ) : Type 0 where
  pub misses_add : misses (joint_run v w) h d ≡ misses (trace_of v) h d + misses (trace_of w) h d
  pub volume_add : volume (joint_run v w) h d ≡ volume (trace_of v) h d + volume (trace_of w) h d
  pub load_add : load (joint_run v w) h d ≡ load (trace_of v) h d + load (trace_of w) h d
  pub optmem_add : optmem (joint_run v w) h d ≡ optmem (trace_of v) h d + optmem (trace_of w) h d
  pub opttotal_add : opttotal (joint_run v w) h d ≡ opttotal (trace_of v) h d + opttotal (trace_of w) h d
  pub optocc_add : optocc (joint_run v w) h d ≡ optocc (trace_of v) h d + optocc (trace_of w) h d
  pub wsmem_least : wsmem (trace_of v) h d + wsmem (trace_of w) h d ≤ wsmem (joint_run v w) h d
  pub wsocc_least : wsocc (trace_of v) h d + wsocc (trace_of w) h d ≤ wsocc (joint_run v w) h d
  pub wsmem_add : length v.entries ≡ length w.entries → wsmem (joint_run v w) h d ≡ wsmem (trace_of v) h d + wsmem (trace_of w) h d
  pub wsocc_add : length v.entries ≡ length w.entries → wsocc (joint_run v w) h d ≡ wsocc (trace_of v) h d + wsocc (trace_of w) h d

-- step by step, the joint optimal schedule holds what the two schedules hold side by side, and nothing of a sheet after its last step
pub record SideBySide (v w : SheetValue) (h d : ℕ) : Type 0 where
  pub first_held : (t i : ℕ) → t < steps (trace_of v) → i < segs (trace_of v)
      → optimal_held (joint_run v w) h d t i ≡ optimal_held (trace_of v) h d t i
  pub first_dropped : (t i : ℕ) → steps (trace_of v) ≤ t → i < segs (trace_of v) → optimal_held (joint_run v w) h d t i ≡ false
  pub second_held : (t j : ℕ) → t < steps (trace_of w) → j < segs (trace_of w)
      → optimal_held (joint_run v w) h d t (segs (trace_of v) + j) ≡ optimal_held (trace_of w) h d t j
  pub second_dropped : (t j : ℕ) → steps (trace_of w) ≤ t → j < segs (trace_of w)
      → optimal_held (joint_run v w) h d t (segs (trace_of v) + j) ≡ false
