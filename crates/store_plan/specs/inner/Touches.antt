-- What one touch of a pass gives, from what the pass keeps of each segment: its mark in the table of last touches and the excess since its
-- last modifying touch.
use Rattle.std.specs.Prelude.{ℕ, ◌+◌, ◌-◌, ◌*◌, ◌<◌, min, Bool, false, cond, List, eqb, leb, Option, Some, None}
use Rattle.std.proofs.Math.Option.{Option as Maybe, none, some}
use Rattle.model.specs.Costs.{swap_cost, retention, keeps}
use Rattle.model.specs.Sheets.{most_segs}
use Rattle.model.specs.Sums.{tabulate}
use Rattle.model.specs.Traces.{Trace}
use Rattle.model.specs.declared.Kind.{Kind}
use Rattle.model.specs.declared.Priced.{Priced}
use Rattle.model.specs.declared.PriceRow.{PriceRow}
use Rattle.store_plan.specs.declared.mod_pass.touching.Touched.{Touched}
use Rattle.stores.specs.Modtotal.{since_mark}

-- an excess or none, as it is held
abbrev pub held_since : Maybe ℕ → Option Priced
held_since none = None
held_since (some e) = Some (record { 0 = e })

-- the table after t steps
unfoldable pub since_table : Trace → (ℕ → Bool) → PriceRow → ℕ → List (Option Priced)
since_table T marks row t = tabulate most_segs (λ i. held_since (since_mark T marks row.h row.d t i))

-- the excess of a touch after t steps, by the mark
abbrev pub excess_by : Kind → ℕ → PriceRow → ℕ → ℕ → ℕ → ℕ
excess_by kind a row z mark t = cond (leb mark t) (row.d * retention kind z (t - mark) - row.h * swap_cost a z) 0

-- whether it is a kept reuse, where x is its excess
abbrev pub kept_by : ℕ → ℕ → ℕ → Bool
kept_by mark t x = cond (leb mark t) (eqb x 0) false

-- an excess, if there is one, below a bound
abbrev pub SinceBelow : ℕ → Option Priced → Type 0
SinceBelow n None = Unit {0}
SinceBelow n (Some e) = e.0 < n

-- it with x more
abbrev pub since_plus : Option Priced → ℕ → Option Priced
since_plus None x = None
since_plus (Some e) x = Some (record { 0 = e.0 + x })

-- it after a touch
abbrev pub since_after : Bool → Option Priced → Option Priced
since_after marked s = cond marked (Some (record { 0 = 0 })) s

-- a store, or the excess where that is less
abbrev pub or_store_by : ℕ → Option Priced → ℕ
or_store_by hw None = hw
or_store_by hw (Some e) = min hw e.0

-- what a touch adds where a store costs hw
abbrev pub store_by : Bool → ℕ → Option Priced → ℕ
store_by marked hw s = cond marked (or_store_by hw s) 0

-- whether a modifying touch belongs to the stay of the one before
abbrev pub joins_by : ℕ → Option Priced → Bool
joins_by hw None = false
joins_by hw (Some e) = keeps e.0 hw

-- all that a touch gives, where s is its excess
abbrev pub touch_with : Bool → ℕ → ℕ → ℕ → ℕ → Option Priced → Touched
touch_with marked hw mark t x s =
    record {
      since = since_after marked s;
      added = record { 0 = store_by marked hw s };
      decision = record { kept = kept_by mark t x; joined = joins_by hw s };
    }

abbrev pub touch_by : Kind → ℕ → PriceRow → ℕ → ℕ → Option Priced → ℕ → Bool → Touched
touch_by kind a row z mark since t marked =
    touch_with marked (row.h * swap_cost a z) mark t (excess_by kind a row z mark t) (since_plus since (excess_by kind a row z mark t))
