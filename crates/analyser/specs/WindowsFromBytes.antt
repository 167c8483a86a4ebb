-- What holds of the numbers that the windows call gives for a run of bytes (request F-12).
use Rattle.model.specs.RowAnswers.{figures_given}
use Rattle.std.specs.Prelude.{ℕ, ◌<◌, ◌-◌, ◌≤◌, ◌+◌, ◌≡◌, List, length, get_or, Ok}
use Rattle.model.specs.Figures.{wsocc}
use Rattle.model.specs.Sheets.{SheetValue, trace_of, row_at}
use Rattle.model.specs.Traces.{steps, refs_of}
use Rattle.windows.specs.Answers.{windows_verdict}
use Rattle.windows.specs.Windows.{longer_than, Windowed}
use Rattle.analyser.specs.Figures.{figures_answer}

-- what holds of the numbers that are given for the bytes s, which read as the sheet v
pub record WindowsFromBytes (s : List ℕ) (v : SheetValue) (list : List ℕ) : Type 0 where
  -- the sheet is one that the recursion is made for
  pub verdict : windows_verdict v.head ≡ (Ok tt)
  pub windowed : Windowed (trace_of v)
  -- a number for each window from 1 to steps: that of the window w is wsocc at the threshold w - 1 over 1
  pub counted : length list ≡ steps (trace_of v)
  pub number : (w : ℕ) → 1 ≤ w → w ≤ steps (trace_of v) → get_or list (w - 1) 0 ≡ wsocc (trace_of v) (w - 1) 1
  -- which is what the figures call reports of a row at that threshold
  pub row : (r : ℕ) → r < length v.head.rows → (row_at v r).d ≡ 1 → (row_at v r).h < steps (trace_of v)
      → get_or list (row_at v r).h 0 ≡ (figures_given (figures_answer s r)).wsocc
  -- the recursion: refs at the window 1, and the next after w adds the reuses and end intervals longer than w steps
  pub first : 1 ≤ steps (trace_of v) → get_or list 0 0 ≡ refs_of (trace_of v)
  pub next : (w : ℕ) → 1 ≤ w → w < steps (trace_of v) → get_or list w 0 ≡ get_or list (w - 1) 0 + longer_than (trace_of v) w
