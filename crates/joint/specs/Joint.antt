-- Two aligners in one memory (request F-7): which sheets join, and the value of the joint sheet.
use Rattle.std.specs.Prelude.{ℕ, zero, suc, ◌+◌, max, ◌≡◌, Bool, true, false, cond, not, ◌&&◌, ◌||◌, List, [], ◌∷◌, ◌++◌, map, eqb, leb}
use Rattle.std.specs.Prelude.{length, get_or}
use Rattle.model.specs.Sheets.{HeadValue, SheetValue, idle, most_segs}
use Rattle.model.specs.Sums.{tabulate}
use Rattle.model.specs.declared.Kind.{Kind}
use Rattle.model.specs.declared.Kind.TheVariants.{Time, Space}
use Rattle.model.specs.declared.PriceRow.{PriceRow}

-- ---- which sheets join

-- the same kind
abbrev pub same_kind : Kind → Kind → Bool
same_kind Time Time = true
same_kind Time Space = false
same_kind Space Time = false
same_kind Space Space = true

-- the same row lines, as many and each as it is written: 1/2 and 2/4 differ
unfoldable pub same_rows : List PriceRow → List PriceRow → Bool
same_rows [] [] = true
same_rows [] (q ∷ qs) = false
same_rows (p ∷ ps) [] = false
same_rows (p ∷ ps) (q ∷ qs) = (eqb p.h q.h && eqb p.d q.d) && same_rows ps qs

-- the same kind, a and row lines
unfoldable pub same_heads : HeadValue → HeadValue → Bool
same_heads p q = same_kind p.kind q.kind && (eqb p.a q.a && same_rows p.rows q.rows)

-- the step at place t touches a segment; beyond the last step none does
abbrev pub touches_at : List ℕ → ℕ → Bool
touches_at refs t = not (eqb (get_or refs t idle) idle)

-- both touch in one of the first n steps
unfoldable pub both_touch : List ℕ → List ℕ → ℕ → Bool
both_touch xs ys zero = false
both_touch xs ys (suc n) = both_touch xs ys n || (touches_at xs n && touches_at ys n)

-- the steps of the joint sheet: the greater number of the two
abbrev pub joint_steps : SheetValue → SheetValue → ℕ
joint_steps v w = max (length v.entries) (length w.entries)

-- ---- the joint sheet

-- the entry of a step: the first's touch, or the second's with its segment numbered after the first's n segments
abbrev pub joint_entry : ℕ → ℕ → ℕ → ℕ
joint_entry n x y = cond (eqb x idle) (cond (eqb y idle) idle (n + y)) x

-- the entries, step by step on the same clock; the shorter record has no touch after its last step
unfoldable pub joint_refs : SheetValue → SheetValue → List ℕ
joint_refs v w =
    tabulate (joint_steps v w) (λ t. joint_entry (length v.head.sizes) (get_or v.entries t idle) (get_or w.entries t idle))

-- the segments and warm segments of the second after those of the first
unfoldable pub joint_head : HeadValue → HeadValue → HeadValue
joint_head p q =
    record {
      kind = p.kind;
      a = p.a;
      sizes = p.sizes ++ q.sizes;
      rows = p.rows;
      warm = p.warm ++ map (λ i. length p.sizes + i) q.warm;
    }

-- the joint sheet, of form 3
unfoldable pub joined : SheetValue → SheetValue → SheetValue
joined v w = record { form = 3; head = joint_head v.head w.head; entries = joint_refs v w; marks = [] }

-- the two sheets join: the same kind, a and row lines (else 20), no step in which both touch (else 21), at most 256 segments (else 22)
pub record Joins (v w : SheetValue) : Type 0 where
  pub same : same_heads v.head w.head ≡ true
  pub apart : both_touch v.entries w.entries (joint_steps v w) ≡ false
  pub few : leb (length v.head.sizes + length w.head.sizes) most_segs ≡ true
