-- What the pass by stack distances keeps: the room of its recency list, and the touches at each distance.
use Rattle.std.specs.Prelude.{ℕ, suc, ◌<◌, ◌≡◌, cond, eqb, get_or}
use Rattle.std.proofs.Math.Option.{Option, none, some}
use Rattle.model.specs.Sheets.{most_segs}
use Rattle.model.specs.Sums.{sum}
use Rattle.model.specs.Traces.{Trace, steps, touching}
use Rattle.replacement.specs.Recency.{distance, entries_looked, distinct}
use Rattle.lru_curve.specs.declared.distance_pass.Counts.{Counts}

-- the room of a recency list: one entry more than there can be segments, so that a first touch always has room
abbrev pub most_entries : ℕ
most_entries = suc most_segs

-- 1 where the distance is q
abbrev pub is_at : ℕ → Option ℕ → ℕ
is_at q none = 0
is_at q (some p) = cond (eqb p q) 1 0

-- how many touches of the first n steps have distance q
unfoldable pub touches_at : Trace → ℕ → ℕ → ℕ
touches_at T n q = sum n (touching T (λ t i. is_at q (distance T t i)))

-- what the pass by distances counts: the touches at distance p + 1, the first touches, the entries looked at
pub record Counted (T : Trace) (c : Counts) : Type 0 where
  pub at_are : (p : ℕ) → p < most_segs → get_or c.at p 0 ≡ touches_at T (steps T) (suc p)
  pub first_is : c.first ≡ distinct T (steps T)
  pub looked_is : c.looked ≡ entries_looked T
