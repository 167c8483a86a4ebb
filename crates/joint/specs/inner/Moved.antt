-- Numbers moved by the segments before them, and put after others, as the second sheet's warm segments are.
use Rattle.std.specs.Prelude.{ℕ, ◌+◌, List, ◌++◌, map}

-- numbers, each moved by n
abbrev pub moved : ℕ → List ℕ → List ℕ
moved n ys = map (λ i. n + i) ys

-- numbers and then others, moved by n
abbrev pub moved_after : List ℕ → ℕ → List ℕ → List ℕ
moved_after xs n ys = xs ++ moved n ys
