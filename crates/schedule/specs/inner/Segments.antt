-- The segment of an entry.
use Rattle.std.specs.Prelude.{ℕ, cond, ltb, Option, Some, None}
use Rattle.model.specs.Sheets.{most_segs}

-- the segment of an entry, if it is one
abbrev pub segment_of : ℕ → ℕ → Option ℕ
segment_of n x = cond (ltb x n) (Some x) None

-- the row of an entry in the table of masks: its segment, 256 where it is none
abbrev pub mask_row : ℕ → ℕ → ℕ
mask_row n x = cond (ltb x n) x most_segs

-- what a choice by a segment, if there is one, gives
abbrev pub chosen : {A : Type 0} → Option ℕ → (ℕ → A) → A → A
chosen None f z = z
chosen (Some x) f z = f x
