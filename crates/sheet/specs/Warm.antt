-- The warm segments of a sheet of form 3 as their lines hold= say them, ascending (request F-6).
use Rattle.std.specs.Prelude.{ℕ, zero, suc, ◌-◌, Bool, true, cond, List, [], ◌∷◌, ltb}
use Rattle.std.proofs.Math.Option.{Option, none, some}
use Rattle.model.specs.declared.Refusal.TheVariants.{HoldNotAbove}
use Rattle.text.specs.Keys.{hold_key}
use Rattle.sheet.specs.Lines.{Parsed, read, refused, and_then, number_line}

-- a segment is above the one before; the first has none before it
abbrev pub above_hold : Option ℕ → ℕ → Bool
above_hold none x = true
above_hold (some p) x = ltb p x

-- a segment after another: refusal 19 where it is not above the one before
abbrev pub hold_after : Option ℕ → ℕ → List ℕ → Parsed ℕ
hold_after prev x rest = cond (above_hold prev x) (read x rest) (refused HoldNotAbove)

-- the line hold= after the segment before it: 19 after 4
unfoldable pub hold_line : ℕ → Option ℕ → List ℕ → Parsed ℕ
hold_line segs prev s = and_then (number_line hold_key 0 (segs - 1) s) (hold_after prev)

-- n lines hold=
unfoldable pub hold_lines : ℕ → ℕ → Option ℕ → List ℕ → Parsed (List ℕ)
hold_lines segs zero prev s = read [] s
hold_lines segs (suc n) prev s =
    and_then (hold_line segs prev s) (λ x rest. and_then (hold_lines segs n (some x) rest) (λ xs end. read (x ∷ xs) end))
