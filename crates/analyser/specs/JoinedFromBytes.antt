-- What holds of the text that is given for two sheets as one (request F-7).
use Rattle.model.specs.RowAnswers.{figures_given}
use Rattle.std.specs.Prelude.{ℕ, ◌<◌, ◌≤◌, ◌+◌, ◌≡◌, List, length, Ok, IsOk}
use Rattle.model.specs.Sheets.{SheetValue, Valid, form_bytes, row_at}
use Rattle.model.specs.declared.RowFigures.{RowFigures}
use Rattle.sheet.specs.Reading.{read_sheet, accepted}
use Rattle.sheet.specs.Writing.{sheet_text}
use Rattle.joint.specs.Figures.{SideBySide}
use Rattle.joint.specs.Joint.{joined, Joins}
use Rattle.analyser.specs.Figures.{figures_answer}

-- the figures of a row of the joint sheet by those of the two sheets v and w. The working set's are worked out afresh
pub record FiguresAdd (v w : SheetValue) (joint first second : RowFigures) : Type 0 where
  pub misses_add : joint.misses ≡ first.misses + second.misses
  pub volume_add : joint.volume ≡ first.volume + second.volume
  pub load_add : joint.load.0 ≡ first.load.0 + second.load.0
  pub optmem_add : joint.optmem.0 ≡ first.optmem.0 + second.optmem.0
  pub opttotal_add : joint.opttotal ≡ first.opttotal + second.opttotal
  pub optocc_add : joint.optocc ≡ first.optocc + second.optocc
  pub wsmem_least : first.wsmem + second.wsmem ≤ joint.wsmem
  pub wsocc_least : first.wsocc + second.wsocc ≤ joint.wsocc
  pub wsmem_add : length v.entries ≡ length w.entries → joint.wsmem ≡ first.wsmem + second.wsmem
  pub wsocc_add : length v.entries ≡ length w.entries → joint.wsocc ≡ first.wsocc + second.wsocc

-- what holds of the text that the call gives for two runs of bytes that read as v and w
pub record JoinedFromBytes (s1 s2 text : List ℕ) (v w : SheetValue) : Type 0 where
  -- the two join, and the text is that of the joint sheet
  pub joins : Joins v w
  pub text_is : text ≡ sheet_text (joined v w)
  -- it is read as the joint sheet, a valid one of form 3, and has at most 31,366 bytes
  pub read_again : read_sheet text ≡ accepted (joined v w)
  pub valid : Valid (joined v w)
  pub form_3 : (joined v w).form ≡ 3
  pub within : length text ≤ form_bytes 3
  -- its rows are those of the first, and those of the second
  pub rows_first : (joined v w).head.rows ≡ v.head.rows
  pub rows_second : (joined v w).head.rows ≡ w.head.rows
  -- the figures call accepts each of them, and gives the sums
  pub figures_accepted : (r : ℕ) → r < length v.head.rows → IsOk (figures_answer text r)
  pub figures_add : (r : ℕ) → r < length v.head.rows
      → FiguresAdd v w (figures_given (figures_answer text r)) (figures_given (figures_answer s1 r)) (figures_given (figures_answer s2 r))
  -- the optimal schedule of a row is the two side by side
  pub schedules : (r : ℕ) → r < length v.head.rows → SideBySide v w (row_at v r).h (row_at v r).d
