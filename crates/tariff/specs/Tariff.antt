-- The loading tariff (request F-5): what a run is billed for its memory and its load at a row, in cents.
use Rattle.std.specs.Prelude.{ℕ, ◌+◌, ◌*◌, ◌/◌, Bool, cond, ◌&&◌, leb, ltb}
use Rattle.tariff.specs.declared.Tariff.{Tariff}

-- the limits: the largest rate and the largest minimum, in cents
abbrev pub largest_rate : ℕ
largest_rate = 9999

abbrev pub largest_minimum : ℕ
largest_minimum = 99999

-- both rates and the minimum lie in their ranges
abbrev pub tariff_in_range : Tariff → Bool
tariff_in_range t = leb t.memory_rate largest_rate && leb t.load_rate largest_rate && leb t.minimum largest_minimum

-- the started thousands of n units: a thousand that is begun counts whole; 0 units have none
abbrev pub started_thousands : ℕ → ℕ
started_thousands n = (n + 999) / 1000

-- the charge for memory and load before the minimum: each by its own started thousands, at its own rate
abbrev pub charge_of : Tariff → ℕ → ℕ → ℕ
charge_of t memory load = started_thousands memory * t.memory_rate + started_thousands load * t.load_rate

-- an amount raised to the minimum where it is lower
abbrev pub raised_to : ℕ → ℕ → ℕ
raised_to minimum cents = cond (ltb cents minimum) minimum cents

-- the bill in cents
unfoldable pub bill_of : Tariff → ℕ → ℕ → ℕ
bill_of t memory load = raised_to t.minimum (charge_of t memory load)
