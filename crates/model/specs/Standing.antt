-- What a sheet by value that was accepted is known to be.
use Rattle.std.specs.Prelude.{◌≤◌, ◌≡◌, length}
use Rattle.model.specs.Sheets.{Valid, most_segs, most_rows, most_steps}
use Rattle.model.specs.Values.{value_of}
use Rattle.model.specs.declared.Sheet.{Sheet}

-- a sheet by value that stands for a valid sheet's value: its counts are within its arrays, which have the largest lengths
pub record Standing (s : Sheet) : Type 0 where
  pub valid : Valid (value_of s)
  pub segs_within : s.head.segs ≤ most_segs
  pub rows_within : s.head.rows ≤ most_rows
  pub warm_within : s.head.warm ≤ most_segs
  pub steps_within : s.steps ≤ most_steps
  pub sizes_whole : length s.head.sizes ≡ most_segs
  pub prices_whole : length s.head.prices ≡ most_rows
  pub holds_whole : length s.head.holds ≡ most_segs
  pub touches_whole : length s.touches ≡ most_steps
  pub marked_within : s.marked ≤ most_steps
  pub marks_whole : length s.marks ≡ most_steps
