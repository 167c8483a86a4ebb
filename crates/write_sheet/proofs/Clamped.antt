-- The value of a sheet whose counts are cut off at the lengths of its arrays: it is the same.
use Prim.Native.Nat.{ℕ, min}
use mathlib.Core.Path.{◌≡◌}
use lib.ListN.{length, take}
use Rattle.model.specs.Sheets.{SheetValue}
use Rattle.model.specs.Values.{head_value_of, value_of}
use Rattle.model.specs.declared.Sheet.{Sheet}
use Rattle.write_sheet.proofs.ClampedHead.{take_min}

-- the value of a sheet by another count of steps and of marks
abbrev pub clamped : Sheet → ℕ → ℕ → SheetValue
clamped s steps marked =
    record { form = s.form; head = head_value_of s.head; entries = take steps s.touches; marks = take marked s.marks }

-- it is the same with each count cut off at the length of its array
pub value-clamped : (s : Sheet) (steps marked : ℕ) → length s.touches ≡ 2048 → length s.marks ≡ 2048 → steps ≡ min s.steps 2048
    → marked ≡ min s.marked 2048 → clamped s steps marked ≡ value_of s
unfolding value_of
value-clamped s steps marked j k e f =
    rw (take_min s.touches s.steps steps 2048 j e, take_min s.marks s.marked marked 2048 k f)
