-- Two sheets joined by hand, the figures of a row beside those of the two, and pairs of sheets that are refused, in one table.
use Prim.Native.Nat.{ℕ}
use mathlib.Core.Path.{◌≡◌, refl}
use mathlib.Core.Bool.{Bool, true, ◌&&◌}
use mathlib.Core.List.{List, [], ◌∷◌}
use lib.Dec.{eqb}
use lib.ListN.{replicate}
use Rattle.model.specs.Figures.{misses, volume, load, optmem, opttotal, optocc, wsmem, wsocc, mean, kept, ref_cost, ref_volume, smaller}
use Rattle.model.specs.Figures.{wsspace}
use Rattle.model.specs.Refusals.{number_of}
use Rattle.model.specs.Rows.{row_figures}
use Rattle.model.specs.Sheets.{SheetValue, idle, listed, trace_of}
use Rattle.model.specs.Sums.{sum, tabulate}
use Rattle.model.specs.Traces.{touching, later, unreferenced}
use Rattle.model.specs.declared.Kind.{Kind}
use Rattle.model.specs.declared.Kind.TheVariants.{Time, Space}
use Rattle.model.specs.declared.PriceRow.{PriceRow}
use Rattle.model.specs.declared.RowFigures.{RowFigures}
use Rattle.sheet.specs.Reading.{Outcome, accepted, rejected}
use Rattle.joint.specs.Figures.{joint_run}
use Rattle.joint.specs.Joining.{join_of}
use Rattle.joint.specs.Joint.{same_rows, same_heads, both_touch, joint_refs, joint_head, joined}

-- the row h/d
abbrev pub row : ℕ → ℕ → PriceRow
row h d = record { h = h; d = d }

-- a sheet of form 3
abbrev pub sheet : Kind → ℕ → List ℕ → List PriceRow → List ℕ → List ℕ → SheetValue
sheet kind a sizes rows warm refs =
    record { form = 3; head = record { kind = kind; a = a; sizes = sizes; rows = rows; warm = warm }; entries = refs; marks = [] }

abbrev pub rows : List PriceRow
rows = row 1 2 ∷ row 3 1 ∷ []

-- touches in steps 1, 3 and 5 of 5
abbrev pub first : SheetValue
first =
    record {
      form = 2;
      head = record { kind = Space; a = 1; sizes = 2 ∷ 3 ∷ []; rows = rows; warm = [] };
      entries = 0 ∷ idle ∷ 1 ∷ idle ∷ 0 ∷ [];
      marks = [];
    }

-- touches in steps 2 and 4 of 4; segment 1 is warm
abbrev pub second : SheetValue
second = sheet Space 1 (4 ∷ 1 ∷ []) rows (1 ∷ []) (idle ∷ 1 ∷ idle ∷ 0 ∷ [])

-- the second's segments 0 and 1 are 2 and 3 of the joint sheet
pub joint-value : join_of first second ≡ accepted (sheet Space 1 (2 ∷ 3 ∷ 4 ∷ 1 ∷ []) rows (3 ∷ []) (0 ∷ 3 ∷ 1 ∷ 2 ∷ 0 ∷ []))
unfolding join_of same_heads same_rows both_touch joined joint_head joint_refs tabulate
joint-value = refl

-- the other way round they join too
pub joint-value-2 : join_of second first ≡ accepted (sheet Space 1 (4 ∷ 1 ∷ 2 ∷ 3 ∷ []) rows (1 ∷ []) (2 ∷ 1 ∷ 3 ∷ 0 ∷ 2 ∷ []))
unfolding join_of same_heads same_rows both_touch joined joint_head joint_refs tabulate
joint-value-2 = refl

-- the figures at the row 3/1, in the order of the listing
abbrev pub figures : ℕ → ℕ → ℕ → ℕ → ℕ → ℕ → ℕ → ℕ → ℕ → RowFigures
figures q v l m t o ws wo mean =
    record {
      h = 3;
      d = 1;
      misses = q;
      volume = v;
      load = record { 0 = l };
      optmem = record { 0 = m };
      opttotal = t;
      optocc = o;
      wsmem = ws;
      wsocc = wo;
      mean = mean;
    }

-- of the two: segment 0 of the first is kept over its 3 steps, and segment 1 of the second, warm, over 1
pub first-figures : row_figures (trace_of first) 3 1 ≡ figures 2 5 7 13 34 13 19 19 3800
unfolding row_figures misses volume load optmem opttotal optocc wsmem wsocc wsspace mean kept ref_cost ref_volume smaller sum touching later
    unreferenced listed
first-figures = refl

pub second-figures : row_figures (trace_of second) 3 1 ≡ figures 1 4 5 6 21 6 8 8 2000
unfolding row_figures misses volume load optmem opttotal optocc wsmem wsocc wsspace mean kept ref_cost ref_volume smaller sum touching later
    unreferenced listed
second-figures = refl

-- of the joint sheet: the sums, but for wsmem, where the second's end intervals reach one step further, 4 + 1 more than 19 + 8
pub joint-row : row_figures (joint_run first second) 3 1 ≡ figures 3 9 12 19 55 19 32 32 6400
unfolding joined joint_head joint_refs tabulate row_figures misses volume load optmem opttotal optocc wsmem wsocc wsspace mean kept ref_cost
    ref_volume smaller sum touching later unreferenced listed
joint-row = refl

-- ---- refusals

-- two sheets and the number of their refusal, 0 where they join
pub record Example : Type 0 where
  pub one : SheetValue
  pub other : SheetValue
  pub number : ℕ

abbrev gives : SheetValue → SheetValue → ℕ → Example
gives v w n = record { one = v; other = w; number = n }

numbered : Outcome → ℕ
numbered (accepted v) = 0
numbered (rejected r) = number_of r

pub all_hold : List Example → Bool
all_hold [] = true
all_hold (x ∷ xs) = eqb (numbered (join_of x.one x.other)) x.number && all_hold xs

-- a sheet of kind time with a = 0, the row 1/2 and these touches; and one of n segments
abbrev pub touching_at : List ℕ → SheetValue
touching_at refs = sheet Time 0 (1 ∷ 1 ∷ []) (row 1 2 ∷ []) [] refs

abbrev pub wide : ℕ → List ℕ → SheetValue
wide n refs = sheet Time 0 (replicate n 1) (row 1 2 ∷ []) [] refs

pub table : List Example
table =
    -- 20: another kind, another a, a row written otherwise, one more on either side, another h or d
    gives (touching_at []) (sheet Space 0 (1 ∷ []) (row 1 2 ∷ []) [] []) 20
    ∷ gives (touching_at []) (sheet Time 1 (1 ∷ []) (row 1 2 ∷ []) [] []) 20
    ∷ gives (touching_at []) (sheet Time 0 (1 ∷ []) (row 2 4 ∷ []) [] []) 20
    ∷ gives (touching_at []) (sheet Time 0 (1 ∷ []) (row 1 2 ∷ row 3 1 ∷ []) [] []) 20
    ∷ gives (sheet Time 0 (1 ∷ []) (row 1 2 ∷ row 3 1 ∷ []) [] []) (touching_at []) 20
    ∷ gives (touching_at []) (sheet Time 0 (1 ∷ []) (row 0 2 ∷ []) [] []) 20
    ∷ gives (touching_at []) (sheet Time 0 (1 ∷ []) (row 1 3 ∷ []) [] []) 20
    -- 21: both touch in step 1, in the last step, the same segment or another
    ∷ gives (touching_at (0 ∷ [])) (touching_at (0 ∷ [])) 21
    ∷ gives (touching_at (0 ∷ [])) (touching_at (1 ∷ [])) 21
    ∷ gives (touching_at (0 ∷ idle ∷ 1 ∷ [])) (touching_at (idle ∷ 0 ∷ 0 ∷ [])) 21
    -- idle in the same step, or beyond the other's last
    ∷ gives (touching_at (0 ∷ idle ∷ [])) (touching_at (idle ∷ idle ∷ 0 ∷ [])) 0
    ∷ gives (touching_at []) (touching_at (0 ∷ 1 ∷ [])) 0
    -- 22: 257 segments together, and not 256
    ∷ gives (wide 256 []) (wide 1 []) 22
    ∷ gives (wide 1 []) (wide 256 []) 22
    ∷ gives (wide 255 []) (wide 1 []) 0
    ∷ gives (wide 128 []) (wide 128 []) 0
    ∷ gives (wide 128 []) (wide 129 []) 22
    -- 20 before 21 and 22, and 21 before 22
    ∷ gives (touching_at (0 ∷ [])) (sheet Time 1 (1 ∷ []) (row 1 2 ∷ []) [] (0 ∷ [])) 20
    ∷ gives (wide 256 []) (sheet Time 1 (1 ∷ []) (row 1 2 ∷ []) [] []) 20
    ∷ gives (wide 256 (0 ∷ [])) (wide 1 (0 ∷ [])) 21
    ∷ []

pub table-holds : all_hold table ≡ true
unfolding join_of same_heads same_rows both_touch joined joint_head joint_refs tabulate numbered all_hold table
table-holds = refl
