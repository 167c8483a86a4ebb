-- The price of a schedule at a row where no stores are counted.
use Rattle.model.specs.declared.Refusal.{Refusal}
use Rattle.model.specs.declared.Price.{Price}
use Rattle.std.specs.Prelude.{ℕ, List, Result, Ok, Err}
use Rattle.model.specs.Pricing.{schedule_verdict}
use Rattle.model.specs.Schedules.{schedule_memory, schedule_load, schedule_total}
use Rattle.model.specs.Traces.{Trace}

-- what pricing a schedule at a row h/d answers: memory, load and total, or the refusal
unfoldable pub price_answer : Trace → ℕ → ℕ → List ℕ → Result Price Refusal
price_answer T h d p =
    elim (schedule_verdict T p) [
      | Ok _ ↦ Ok (record {
        memory = record { 0 = schedule_memory T p };
        load = record { 0 = schedule_load T p };
        total = schedule_total T h d p;
      })
      | Err r ↦ Err r
    ]
