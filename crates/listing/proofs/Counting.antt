-- Counting the references of a standing sheet: the entries that are segments, one step after another.
use Prim.Native.Nat.{ℕ, ◌+◌, ◌≤◌}
use mathlib.Core.Path.{◌≡◌, refl, sym, ap, ◌∙◌}
use mathlib.Core.Bool.{Bool, true, false, cond}
use mathlib.Core.List.{List}
use native.Mathlib.Numerals.{add-one}
use native.Mathlib.Omega.{arith}
use lib.Dec.{ltb}
use lib.ListN.{get_or}
use Rattle.std.specs.Int.{from_bool}
use Rattle.model.specs.Sheets.{trace_of}
use Rattle.model.specs.Standing.{Standing}
use Rattle.model.specs.Sums.{sum}
use Rattle.model.specs.Traces.{touching, refs_by, refs_of}
use Rattle.model.specs.Values.{value_of}
use Rattle.model.specs.declared.Sheet.{Sheet}
use Rattle.model.proofs.Bounds.{either-within}
use Rattle.model.proofs.Standing.{segs-counted, steps-counted, entry_of}
use Rattle.model.proofs.Sums.{sum-suc, sum-none, sum-eq}

-- how many of the first t entries are segments
abbrev pub touches_by : ℕ → List ℕ → ℕ → ℕ
touches_by segs touches t = sum t (λ k. cond (ltb (get_or touches k 0) segs) 1 0)

-- 1 where a test holds
one : (b : Bool) → from_bool b ≡ cond b 1 0
one true = refl
one false = refl

-- refs counts them
pub record Counted (segs : ℕ) (touches : List ℕ) (t refs : ℕ) : Type 0 where
  pub few : refs ≤ t
  pub is : refs ≡ touches_by segs touches t

module _ (segs : ℕ) (touches : List ℕ) where
  -- before the first step
  pub counted_none : Counted segs touches 0 0
  counted_none = record { few = omega arith; is = sym (sum-none _) }

  -- one step more
  pub counted_next : (t refs n : ℕ) → Counted segs touches t refs → n ≡ from_bool (ltb (get_or touches t 0) segs)
      → Counted segs touches (t + 1) (refs + n)
  counted_next t refs n c e =
      let b = ltb (get_or touches t 0) segs in
      record {
        few = omega (arith, c.few, e ∙ one b, either-within b 1 0 1 (omega arith) (omega arith));
        is = rw (c.is, e ∙ one b, add-one t) (sym (sum-suc t _));
      }

-- after all steps they are the references of the sheet
pub counted-all : (s : Sheet) → Standing s → touches_by s.head.segs s.touches s.steps ≡ refs_of (trace_of (value_of s))
unfolding refs_by touching
counted-all s c =
    sum-eq s.steps _ _ (λ t lt. rw (entry_of s c t lt, segs-counted s c))
    ∙ ap (λ n. sum n (touching (trace_of (value_of s)) (λ k i. 1))) (sym (steps-counted s c))
