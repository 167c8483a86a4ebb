-- What the functions that write the optimal schedule give: the marks of kept touches, and the bytes of a step with one segment changed.
use Rattle.std.specs.Prelude.{ℕ, ◌+◌, ◌-◌, ◌*◌, ◌/◌, ◌%◌, ◌^◌, ◌<◌, ◌≡◌, Bool, false, cond, List, eqb, leb, get_or}
use Rattle.std.specs.Int.Bits.{bit_and}
use Rattle.model.specs.Costs.{swap_cost, retention, keeps}
use Rattle.model.specs.Sums.{tabulate}
use Rattle.model.specs.Traces.{Trace, segs, steps, entry}
use Rattle.model.specs.Figures.{kept}
use Rattle.model.specs.declared.Kind.{Kind}
use Rattle.model.specs.declared.PriceRow.{PriceRow}

-- whether a touch of a segment of size z after t steps is kept, by the segment's mark in the table of last touches
abbrev pub kept_by : Kind → ℕ → PriceRow → ℕ → ℕ → ℕ → Bool
kept_by kind a row z mark t = cond (leb mark t) (keeps (row.d * retention kind z (t - mark)) (row.h * swap_cost a z)) false

-- mark t says whether the touch in the step at place t is kept, where it has one
abbrev pub KeptMarks : Trace → PriceRow → List Bool → Type 0
KeptMarks T row marks = (t : ℕ) → t < steps T → entry T t < segs T → get_or marks t false ≡ kept T row.h row.d t (entry T t)

-- byte j of a step that holds segment i alone
unfoldable pub mask_byte : ℕ → ℕ → ℕ
mask_byte i j = cond (eqb (i / 8) j) (2 ^ (i % 8)) 0

-- for each segment the bytes of a step that holds this one alone, and then those of a step that holds none
unfoldable pub mask_table : List ℕ
mask_table = tabulate 8224 (λ n. mask_byte (n / 32) (n % 32))

-- a byte with its bits in a mask replaced by those of another byte
unfoldable pub masked : ℕ → ℕ → ℕ → ℕ
masked byte mask on = byte - bit_and byte mask + bit_and mask on

-- the bytes of a step with segment i held, where `on` is 255, or not held, where it is 0; the other segments stay
unfoldable pub step_with : List ℕ → ℕ → ℕ → List ℕ
step_with step i on = tabulate 32 (λ j. masked (get_or step j 0) (mask_byte i j) on)
