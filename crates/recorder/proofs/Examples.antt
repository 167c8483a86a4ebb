-- Recorders computed from the definitions: which number a touch and an idle step get, and what a recorder holds.
use Prim.Native.Nat.{ℕ}
use mathlib.Core.Path.{◌≡◌, refl}
use mathlib.Core.List.{List, [], ◌∷◌, ◌++◌, map}
use lib.ListN.{take}
use Rattle.model.specs.Figures.{ref_cost, ref_volume}
use Rattle.model.specs.LastTouches.{last_table}
use Rattle.model.specs.Refusals.{verdict_number}
use Rattle.model.specs.Sheets.{SheetValue, idle, listed}
use Rattle.model.specs.Sums.{sum, tabulate}
use Rattle.model.specs.Traces.{touching, later, unreferenced}
use Rattle.model.specs.Values.{head_of, empty_head}
use Rattle.model.specs.declared.Kind.{Kind}
use Rattle.model.specs.declared.Kind.TheVariants.{Time, Space}
use Rattle.recorder.specs.Recorders.{recorder_of, refs_verdict, touch_verdict, touch_all_verdict, idle_verdict}
use Rattle.recorder.specs.declared.Recorder.{Recorder}

-- the sheet of a kind with a = 1, sizes 1 and 3, the row 1/2, and these entries
recorded : Kind → List ℕ → SheetValue
recorded kind entries =
    record {
      form = 2;
      head = record { kind = kind; a = 1; sizes = 1 ∷ 3 ∷ []; rows = record { h = 1; d = 2 } ∷ []; warm = [] };
      entries = entries;
      marks = [];
    }

-- steps, Q and V of a recorder, and the last touches of its first three segments
held_by : Recorder → List ℕ
held_by R = R.steps ∷ R.cost.0 ∷ R.volume ∷ take 3 R.last

-- references 0 and 1, kind time: Q is 2 and V is 4; kind space: both are 4; with an idle step between them the step of the second is 3
time-held : held_by (recorder_of (recorded Time (0 ∷ 1 ∷ []))) ≡ 2 ∷ 2 ∷ 4 ∷ 1 ∷ 2 ∷ 65535 ∷ []
unfolding recorded held_by recorder_of ref_cost ref_volume last_table listed sum tabulate touching later unreferenced
time-held = refl

space-held : held_by (recorder_of (recorded Space (0 ∷ 1 ∷ []))) ≡ 2 ∷ 4 ∷ 4 ∷ 1 ∷ 2 ∷ 65535 ∷ []
unfolding recorded held_by recorder_of ref_cost ref_volume last_table listed sum tabulate touching later unreferenced
space-held = refl

idle-held : held_by (recorder_of (recorded Time (1 ∷ idle ∷ 1 ∷ []))) ≡ 3 ∷ 2 ∷ 6 ∷ 65535 ∷ 3 ∷ 65535 ∷ []
unfolding recorded held_by recorder_of ref_cost ref_volume last_table listed sum tabulate touching later unreferenced
idle-held = refl

-- a recorder of two segments after so many steps
counting : ℕ → Recorder
counting n = record { head = head_of (recorded Time []).head; steps = n; last = []; buckets = []; cost = record { 0 = 0 }; volume = 0 }

-- one reference: 4 for segment 2 of two, also with 2,048 steps taken; then 13
touch-numbers : map (λ x. verdict_number (touch_verdict (counting 2047) x)) (0 ∷ 1 ∷ 2 ∷ [])
    ++ map (λ x. verdict_number (touch_verdict (counting 2048) x)) (0 ∷ 1 ∷ 2 ∷ [])
    ≡ 0 ∷ 0 ∷ 4 ∷ 13 ∷ 13 ∷ 4 ∷ []
unfolding recorded counting head_of
touch-numbers = refl

-- several: the first that would be refused decides
touch-all-numbers : map (λ xs. verdict_number (touch_all_verdict (counting 2046) xs))
    ([] ∷ (0 ∷ 1 ∷ []) ∷ (0 ∷ 1 ∷ 1 ∷ []) ∷ (0 ∷ 1 ∷ 2 ∷ []) ∷ (0 ∷ 2 ∷ 1 ∷ 1 ∷ []) ∷ [])
    ≡ 0 ∷ 0 ∷ 13 ∷ 4 ∷ 4 ∷ []
unfolding recorded counting head_of refs_verdict
touch-all-numbers = refl

-- an idle step: 13 with 2,048 steps taken
idle-numbers : map (λ n. verdict_number (idle_verdict (counting n))) (0 ∷ 2047 ∷ 2048 ∷ []) ≡ 0 ∷ 0 ∷ 13 ∷ []
unfolding recorded counting head_of
idle-numbers = refl

-- a recorder that a refused start handed back has no segments: each reference is 4, and an idle step is taken
empty : Recorder
empty = record { head = empty_head; steps = 0; last = []; buckets = []; cost = record { 0 = 0 }; volume = 0 }

empty-numbers : verdict_number (touch_verdict empty 0) ∷ verdict_number (idle_verdict empty) ∷ [] ≡ 4 ∷ 0 ∷ []
unfolding empty empty_head
empty-numbers = refl
