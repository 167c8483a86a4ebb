-- The unreferenced time as the code holds it, and where a reference stands.
use Rattle.std.specs.Prelude.{ℕ, ◌<◌, ◌≤◌, ◌≡◌, Option, None, Some}
use Rattle.std.proofs.Math.Option.{Option as Maybe, none, some}
use Rattle.model.specs.Traces.{Trace, steps, refs_of, place_of}

-- an unreferenced time, or none, as an option of the code
abbrev pub time_of : Maybe ℕ → Option ℕ
time_of none = None
time_of (some k) = Some k

-- the place of the n-th reference of a run, or none where it has fewer
abbrev pub PlaceFound : Trace → ℕ → Option ℕ → Type 0
PlaceFound T n None = refs_of T < n
PlaceFound T n (Some p) = (p < steps T) × (n ≤ refs_of T) × (p ≡ place_of T n)
