-- The numbers of rows one after the other: how many they are.
use Prim.Native.Nat.{ℕ, ◌*◌, ◌≤◌}
use mathlib.Core.Path.{◌≡◌, refl}
use mathlib.Core.List.{List, [], ◌∷◌}
use native.Mathlib.Omega.{arith}
use lib.ListN.{length, take, length-append}
use lib.Seq.{length-take-le}
use Rattle.model.specs.declared.RowFigures.{RowFigures}
use Rattle.text.specs.Texts.{lines_text}
use Rattle.c_lists.specs.Figures.{figure_list, figure_lists}

-- the numbers of rows are a run, as the lines of rows are
pub rows_run : (fs : List RowFigures) → figure_lists fs ≡ lines_text figure_list fs
unfolding figure_lists lines_text
rows_run [] = refl
rows_run (f ∷ fs) = rw (rows_run fs)

-- eleven for each row
pub rows_length : (fs : List RowFigures) → length (figure_lists fs) ≡ 11 * length fs
unfolding figure_lists
rows_length [] = refl
rows_length (f ∷ fs) = rw (length-append, rows_length fs) (omega arith)

-- and for the first i
pub run_length : (fs : List RowFigures) (i : ℕ) → i ≤ length fs → length (lines_text figure_list (take i fs)) ≡ 11 * i
run_length fs i h = rw (← rows_run (take i fs), rows_length (take i fs), length-take-le i fs h)
