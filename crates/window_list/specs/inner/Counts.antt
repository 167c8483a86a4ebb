-- Reuses and end intervals counted by length, as the code holds them.
use Rattle.std.specs.Prelude.{ℕ, zero, suc, ◌+◌, ◌-◌, ◌<◌, ◌≡◌, cond, List, eqb, leb, length, get_or, set, replicate}
use Rattle.model.specs.Figures.{of_time}
use Rattle.model.specs.Sums.{sum, tabulate}
use Rattle.model.specs.Traces.{Trace, steps, touching, unreferenced}

-- how many lengths are counted: 0, 1, .., 2,049
abbrev pub lengths : ℕ
lengths = 2050

-- 1 for an unreferenced time that makes an interval of u steps
abbrev pub of_length : ℕ → ℕ → ℕ
of_length u k = cond (eqb u (suc k)) 1 0

-- nothing is counted
unfoldable pub no_counts : List ℕ
no_counts = replicate lengths 0

-- each count can take one more
abbrev pub Room : List ℕ → Type 0
Room counts = (length counts ≡ lengths) × ((u : ℕ) → u < lengths → get_or counts u 0 < 65535)

-- the counts with the interval that ends after t steps, of a segment with that mark in the table of last touches
unfoldable pub with_interval : List ℕ → ℕ → ℕ → List ℕ
with_interval counts mark t = cond (leb mark t) (set counts (t - mark + 1) (get_or counts (t - mark + 1) 0 + 1)) counts

-- the counts with the end intervals after t steps of the first n segments with these marks
unfoldable pub with_ends : List ℕ → List ℕ → ℕ → ℕ → List ℕ
with_ends counts marks t zero = counts
with_ends counts marks t (suc n) = with_interval (with_ends counts marks t n) (get_or marks n 0) t

-- how many of the reuses that the first n steps end have u steps
unfoldable pub reuse_count : Trace → ℕ → ℕ → ℕ
reuse_count T n u = sum n (touching T (λ t i. of_time (of_length u) (unreferenced T t i)))

-- how many of the end intervals of the first n segments have u steps
unfoldable pub end_count : Trace → ℕ → ℕ → ℕ
end_count T n u = sum n (λ i. of_time (of_length u) (unreferenced T (steps T) i))

-- the reuses that the first n steps end, by length; all reuses and the end intervals of the first n segments
unfoldable pub reuse_counts : Trace → ℕ → List ℕ
reuse_counts T n = tabulate lengths (reuse_count T n)

unfoldable pub interval_counts : Trace → ℕ → List ℕ
interval_counts T n = tabulate lengths (λ u. reuse_count T (steps T) u + end_count T n u)
