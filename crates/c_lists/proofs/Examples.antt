-- The lists of one recorder written out: kind time, a = 5, sizes 7, 8 and 9, rows 1/20 and 3/4, segment 2 warm, after the steps 0, idle,
-- 1 and 0.
use mathlib.Core.Path.{◌≡◌, refl}
use mathlib.Core.List.{[], ◌∷◌, ◌++◌}
use lib.ListN.{replicate}
use Rattle.model.specs.Figures.{ref_cost, ref_volume}
use Rattle.model.specs.LastTouches.{last_table}
use Rattle.model.specs.Sheets.{SheetValue, idle, listed}
use Rattle.model.specs.Sums.{sum, tabulate}
use Rattle.model.specs.Traces.{touching, later, unreferenced}
use Rattle.model.specs.Values.{zeros, zero_rows, padded, head_of}
use Rattle.model.specs.declared.Kind.{Kind}
use Rattle.model.specs.declared.Kind.TheVariants.{Time, Space}
use Rattle.buckets.specs.FirstRow.{first_row}
use Rattle.buckets.specs.Buckets.{bucket_of, filed, bucket_after}
use Rattle.recorder.specs.Recorders.{recorder_of}
use Rattle.c_lists.specs.RecorderList.{list_of}
use Rattle.c_lists.specs.Recorders.{lists, lists_of}
use Rattle.c_lists.specs.Tables.{sums_of}

recorded : Kind → SheetValue
recorded kind =
    record {
      form = 3;
      head =
          record {
            kind = kind;
            a = 5;
            sizes = 7 ∷ 8 ∷ 9 ∷ [];
            rows = record { h = 1; d = 20 } ∷ record { h = 3; d = 4 } ∷ [];
            warm = 2 ∷ [];
          };
      entries = 0 ∷ idle ∷ 1 ∷ 0 ∷ [];
      marks = [];
    }

-- kind, a, segs, rows and warm; steps, Q and V; the sizes; the warm segments; h; d; the step of each last touch, 0 for the warm one and
-- 65,535 for those untouched; the sums. The swap costs are 36 and 41: the reuse in step 4 (R = 2) is kept by row 1 and not by row 0, and
-- the last bucket has the two first touches
lists-written : lists_of (recorder_of (recorded Time))
    ≡ lists (0 ∷ 5 ∷ 3 ∷ 2 ∷ 1 ∷ []) (4 ∷ 3 ∷ 22 ∷ []) ((7 ∷ 8 ∷ 9 ∷ []) ++ replicate 253 0) ((2 ∷ []) ++ replicate 255 0)
    ((1 ∷ 3 ∷ []) ++ replicate 62 0) ((20 ∷ 4 ∷ []) ++ replicate 62 0) ((4 ∷ 3 ∷ 0 ∷ []) ++ replicate 253 65535)
    (replicate 6 0 ++ (1 ∷ 7 ∷ 2 ∷ 36 ∷ 14 ∷ 252 ∷ []) ++ replicate 372 0 ++ (2 ∷ 15 ∷ 0 ∷ 77 ∷ 0 ∷ 580 ∷ []))
unfolding recorded lists_of sums_of recorder_of head_of padded zeros zero_rows last_table ref_cost ref_volume listed sum tabulate touching
    later unreferenced first_row bucket_of filed bucket_after
lists-written = refl

-- kind space is 1, and Q is then V
space-written : (lists_of (recorder_of (recorded Space))).head ++ (lists_of (recorder_of (recorded Space))).counts
    ≡ 1 ∷ 5 ∷ 3 ∷ 2 ∷ 1 ∷ 4 ∷ 22 ∷ 22 ∷ []
unfolding recorded lists_of recorder_of head_of ref_cost ref_volume sum touching
space-written = refl

-- the same recorder as one list: kind, a, segs, rows, warm, steps, Q and V; the sizes; h; d; the warm segments; the last touches; the sums
list_written : list_of (recorder_of (recorded Time))
    ≡ (0 ∷ 5 ∷ 3 ∷ 2 ∷ 1 ∷ 4 ∷ 3 ∷ 22 ∷ [])
    ++ ((7 ∷ 8 ∷ 9 ∷ []) ++ replicate 253 0)
    ++ ((1 ∷ 3 ∷ []) ++ replicate 62 0)
    ++ ((20 ∷ 4 ∷ []) ++ replicate 62 0)
    ++ ((2 ∷ []) ++ replicate 255 0)
    ++ ((4 ∷ 3 ∷ 0 ∷ []) ++ replicate 253 65535)
    ++ (replicate 6 0 ++ (1 ∷ 7 ∷ 2 ∷ 36 ∷ 14 ∷ 252 ∷ []) ++ replicate 372 0 ++ (2 ∷ 15 ∷ 0 ∷ 77 ∷ 0 ∷ 580 ∷ []))
unfolding recorded list_of sums_of recorder_of head_of padded zeros zero_rows last_table ref_cost ref_volume listed sum tabulate touching
    later unreferenced first_row bucket_of filed bucket_after
list_written = refl
