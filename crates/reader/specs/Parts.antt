-- What a reader shows of the line at the head of a run of bytes, its key and its value, and what it goes on to. Where there is no such
-- part it shows nothing.
use Rattle.std.specs.Prelude.{ℕ, ◌-◌, List, [], length, drop}
use Rattle.text.specs.Keys.{line_feed}
use Rattle.sheet.specs.Lines.{Split, parts, none, split_at}

-- "="
abbrev pub equals : ℕ
equals = 61

-- the first part of a split
abbrev pub part_before : Split → List ℕ
part_before (parts x y) = x
part_before none = []

-- the second part of a split
abbrev pub part_after : Split → List ℕ
part_after (parts x y) = y
part_after none = []

-- the line at the head of s: what stands before its first line feed
abbrev pub line_of : List ℕ → List ℕ
line_of s = part_before (split_at line_feed s)

-- its key: what stands before its first "="
abbrev pub line_key : List ℕ → List ℕ
line_key s = part_before (split_at equals (line_of s))

-- its value: what stands between its first "=" and its line feed
abbrev pub line_value : List ℕ → List ℕ
line_value s = part_after (split_at equals (line_of s))

-- what follows it
abbrev pub after_line : List ℕ → List ℕ
after_line s = part_after (split_at line_feed s)

-- the place in s of what follows the line at the place at; the end where there is none
abbrev pub place_after : List ℕ → ℕ → ℕ
place_after s at = length s - length (after_line (drop at s))
