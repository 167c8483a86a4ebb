-- The price of an accepted schedule with its stores counted.
use Rattle.model.specs.Schedules.{schedule_memory}
use Rattle.model.specs.Traces.{Trace}
use Rattle.model.specs.declared.Price.{Price}
use Rattle.std.specs.Prelude.{ℕ, Bool, List}
use Rattle.stores.specs.Stays.{marked_load, marked_total}

-- memory, load and total at a row h/d
abbrev pub marked_price : Trace → (ℕ → Bool) → ℕ → ℕ → List ℕ → Price
marked_price T marks h d p =
    record { memory = record { 0 = schedule_memory T p }; load = record { 0 = marked_load T marks p }; total = marked_total T marks h d p }
