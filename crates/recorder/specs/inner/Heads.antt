-- What is read of a head that may be put together by hand: its sizes, its warm segments and their swap costs.
use Rattle.std.specs.Prelude.{ℕ, min, List, take}
use Rattle.model.specs.Sheets.{most_segs}
use Rattle.model.specs.declared.Head.{Head}
use Rattle.figures.specs.inner.Sweep.{start_swaps}
use Rattle.figures.specs.declared.rows.StartSwaps.{StartSwaps}

-- the sizes and the warm segments of a head that may be put together by hand: as many as its arrays have
abbrev pub head_sizes : Head → List ℕ
head_sizes head = take (min head.segs most_segs) head.sizes

abbrev pub head_warm : Head → List ℕ
head_warm head = take (min head.warm most_segs) head.holds

-- the swap costs of its warm segments
abbrev pub head_swaps : Head → StartSwaps
head_swaps head = start_swaps head.a (head_sizes head) (head_warm head)
