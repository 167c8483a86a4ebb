-- `c_lists::recorder_list::take_all` meets its contract. The loop's invariant: a list that stood for a sheet
-- stands for it with the references so far.
use mathlib.Core.Path.{◌≡◌}
use lib.ListN.{take}
use Rattle.model.specs.Sheets.{SheetValue, Valid}
use Rattle.recorder.specs.Recorders.{recorder_of, appended}
use Rattle.c_lists.specs.RecorderList.{list_of}
use Rattle.c_lists.proofs.recorder_list.take_all.Given as goal

abbrev pub invariant-loop-t : goal.invariant-loop-t
invariant-loop-t l =
    (v : SheetValue) → Valid v → l.initial.list ≡ list_of (recorder_of v)
    → l.list ≡ list_of (recorder_of (appended v (take l.t l.refs)))
