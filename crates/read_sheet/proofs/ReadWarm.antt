-- Laws of reading the warm segments, n lines hold=.
use Prim.Native.Nat.{ℕ, ◌-◌, ◌≤◌}
use mathlib.Core.Path.{◌≡◌, refl}
use mathlib.Core.List.{List}
use mathlib.Core.Option.{Option, some}
use Rattle.sheet.specs.Lines.{read}
use Rattle.sheet.specs.Warm.{hold_line, hold_lines}
use Rattle.sheet.proofs.Words.{hold-reads}
use Rattle.scan.proofs.LinesPassed.{Repeats}

-- the number of a line is a segment
pub hold-bound : (segs : ℕ) (prev : Option ℕ) (s : List ℕ) (n : ℕ) (rest : List ℕ) → hold_line segs prev s ≡ read n rest → n ≤ segs - 1
hold-bound segs prev s n rest e = ((hold-reads segs prev).back s n rest e).1.0.1

-- a line leaves its number
pub holds-repeat : (segs : ℕ) → Repeats (hold_lines segs) (hold_line segs) some
unfolding hold_lines
holds-repeat segs = record { none_left = λ p s. refl; one_more = λ n p s. refl }
