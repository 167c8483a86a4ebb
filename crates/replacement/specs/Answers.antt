-- What is answered for the misses of a sheet with 1, 2, .., segs frames: 26, then 27, then 11 by the place; and the entries looked at.
use Rattle.replacement.specs.declared.Curve.{Curve}
use Rattle.std.specs.Prelude.{ℕ, Bool, true, cond, ◌&&◌, List, [], ◌∷◌, eqb, length, Result, Ok, Err}
use Rattle.model.specs.Refusals.{value_or_zero}
use Rattle.model.specs.Sheets.{HeadValue, SheetValue, trace_of}
use Rattle.model.specs.declared.Refusal.{Refusal}
use Rattle.model.specs.declared.Refusal.TheVariants.{SizeNotOne, WarmSegment}
use Rattle.replacement.specs.Memory.{simulated_curve}
use Rattle.replacement.specs.Recency.{lru_curve, entries_looked}

-- every size is 1
unfoldable pub all_ones : List ℕ → Bool
all_ones [] = true
all_ones (z ∷ zs) = eqb z 1 && all_ones zs

-- 26 where a size is not 1, then 27 where there are warm segments, so many of them
unfoldable pub ones_verdict : List ℕ → ℕ → Result (Unit {0}) Refusal
ones_verdict sizes warm = cond (all_ones sizes) (cond (eqb warm 0) (Ok tt) (Err WarmSegment)) (Err SizeNotOne)

-- the list of a sheet to which neither applies
abbrev pub list_after : Result (Unit {0}) Refusal → List ℕ → Result (List ℕ) Refusal
list_after (Ok u) list = Ok list
list_after (Err why) list = Err why

abbrev pub ones_for : HeadValue → List ℕ → Result (List ℕ) Refusal
ones_for head list = list_after (ones_verdict head.sizes (length head.warm)) list

-- what stands beside a refusal: no list, no entry looked at
abbrev pub no_curve : Curve
no_curve = record { length = 0; looked = 0 }

abbrev pub curve_given : Result Curve Refusal → Curve
curve_given a = value_or_zero no_curve a

-- the list of a sheet, by distances and by simulation: 26 where a size is not 1, then 27 where a segment is warm
unfoldable pub curve_for : SheetValue → Result (List ℕ) Refusal
curve_for v = ones_for v.head (lru_curve (trace_of v))

unfoldable pub plain_for : SheetValue → Result (List ℕ) Refusal
plain_for v = ones_for v.head (simulated_curve (trace_of v))

-- the length of what was written, or the refusal
abbrev pub curve_length : Result Curve Refusal → Result ℕ Refusal
curve_length (Ok c) = Ok c.length
curve_length (Err r) = Err r

-- the entries looked at, 0 beside a refusal
abbrev pub looked_for : {A : Type 0} → SheetValue → Result A Refusal → ℕ
looked_for v (Ok u) = entries_looked (trace_of v)
looked_for v (Err r) = 0
