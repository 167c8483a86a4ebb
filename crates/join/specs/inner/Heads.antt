-- What the code of the heads works out or needs: numbers that fit when moved, heads that fit.
use Rattle.std.specs.Prelude.{ℕ, ◌+◌, ◌≤◌, ◌<◌, ◌≡◌, List, length, get_or, take}
use Rattle.model.specs.Sheets.{most_segs, most_rows}
use Rattle.model.specs.declared.Head.{Head}

-- numbers and then others, moved by n: there are at most 256 of them, and none exceeds 16 bits
pub record Movable (xs : List ℕ) (n : ℕ) (ys : List ℕ) : Type 0 where
  pub few : length xs + length ys ≤ most_segs
  pub fits : (k : ℕ) → k < length ys → n + get_or ys k 0 < 65536

-- the sizes and the warm segments of two heads fit one after the other, the second's warm segments numbered after the first's segments
pub record HeadsFit (p q : Head) : Type 0 where
  pub rows : p.rows ≤ most_rows
  pub prices : length p.prices ≡ most_rows
  pub segs : p.segs + q.segs ≤ most_segs
  pub warm : p.warm + q.warm ≤ most_segs
  pub sizes : Movable (take p.segs p.sizes) 0 (take q.segs q.sizes)
  pub holds : Movable (take p.warm p.holds) p.segs (take q.warm q.holds)
