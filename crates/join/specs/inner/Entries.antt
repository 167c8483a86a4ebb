-- What the code of the entries works out: the entries of so many steps of two records.
use Rattle.std.specs.Prelude.{ℕ, ◌<◌, ◌≡◌, ◌⊎◌, List, get_or}
use Rattle.model.specs.Sheets.{idle, most_segs}
use Rattle.model.specs.Sums.{tabulate}
use Rattle.joint.specs.Joint.{joint_entry}

-- an entry is below 256 or idle
abbrev pub IsEntry : ℕ → Type 0
IsEntry y = (y < most_segs) ⊎ (y ≡ idle)

-- the entries of so many steps of two records, where the first has n segments
abbrev pub entries_of : ℕ → List ℕ → List ℕ → ℕ → List ℕ
entries_of n xs ys steps = tabulate steps (λ t. joint_entry n (get_or xs t idle) (get_or ys t idle))
