-- Sizing on sheets with rows of equal load, in one table; a single proof goes over it, computed from the definitions.
use Prim.Native.Nat.{ℕ, ◌-◌, ◌^◌}
use mathlib.Core.Path.{◌≡◌, refl}
use mathlib.Core.Bool.{Bool, true, false, ◌&&◌}
use mathlib.Core.List.{List, [], ◌∷◌}
use mathlib.Core.Option.{Option, none, some}
use lib.Dec.{eqb}
use Rattle.model.specs.Sums.{sum}
use Rattle.model.specs.Traces.{touching, later, unreferenced}
use Rattle.model.specs.Figures.{misses, volume, load, optmem, kept, ref_cost}
use Rattle.model.specs.Sheets.{SheetValue, listed}
use Rattle.model.specs.Sizing.{chosen_of, sized_row}
use Rattle.model.specs.declared.Kind.TheVariants.{Space}
use Rattle.model.specs.declared.PriceRow.{PriceRow}

infix 70 ◌over◌
◌over◌ : ℕ → ℕ → PriceRow
h over d = record { h = h; d = d }

-- the listing's run, whose ratios R/w are 0, 1/2, 3/4 and 1, or another one of its segments, at these rows
sheet_of : List ℕ → List PriceRow → SheetValue
sheet_of refs rows = record
    { form = 1; head = record { kind = Space; a = 1; sizes = 1 ∷ 3 ∷ []; rows = rows; warm = [] }; entries = refs; marks = [] }

listing : List PriceRow → SheetValue
listing rows = sheet_of (0 ∷ 1 ∷ 0 ∷ 1 ∷ 1 ∷ 0 ∷ []) rows

-- optmem and load of the six rows: 12 and 14; 13 and 12, three times; 18 and 6, twice
six : SheetValue
six = listing (0 over 1 ∷ 1 over 2 ∷ 3 over 5 ∷ 2 over 3 ∷ 1 over 1 ∷ 2 over 1 ∷ [])

-- the rows of equal load alone
three : SheetValue
three = listing (1 over 2 ∷ 3 over 5 ∷ 2 over 3 ∷ [])

-- no references: optmem and load are 0 in each row
idle : SheetValue
idle = sheet_of [] (0 over 1 ∷ 1 over 2 ∷ [])

-- rows out of order, which no accepted sheet has: the definition does not lean on it
unordered : SheetValue
unordered = listing (2 over 1 ∷ 0 over 1 ∷ 2 over 3 ∷ 1 over 2 ∷ [])

-- a sheet, a ceiling and the row that is given
pub record Case : Type 0 where
  pub sheet : SheetValue
  pub ceiling : ℕ
  pub gives : Option ℕ

at : SheetValue → ℕ → Option ℕ → Case
at s n o = record { sheet = s; ceiling = n; gives = o }

same : Option ℕ → Option ℕ → Bool
same none none = true
same none (some r) = false
same (some q) none = false
same (some q) (some r) = eqb q r

pub all_given : List Case → Bool
all_given [] = true
all_given (c ∷ cs) = same (sized_row c.sheet c.ceiling) c.gives && all_given cs

pub sizes : List Case
sizes =
    at three 13 (some 0)
    ∷ at six 17 (some 1)
    ∷ at six 18 (some 4)
    ∷ at six 13 (some 1)
    ∷ at six 12 (some 0)
    ∷ at six 11 none
    ∷ at six 0 none
    ∷ at six (2 ^ 64 - 1) (some 4)
    ∷ at idle 0 (some 0)
    ∷ at idle (2 ^ 64 - 1) (some 0)
    ∷ at unordered 17 (some 2)
    ∷ at unordered 12 (some 1)
    ∷ []

pub sizes-hold : all_given sizes ≡ true
unfolding all_given same sizes at six three idle unordered listing sheet_of ◌over◌ chosen_of listed
    misses volume load optmem sum touching later unreferenced kept ref_cost
sizes-hold = refl
