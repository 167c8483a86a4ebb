-- What the counts and arrays of a standing sheet hold: its value's lists, rows, references and sizes.
use Prim.Native.Nat.{ℕ, ◌≤◌, ◌<◌}
use mathlib.Core.Path.{◌≡◌, refl, sym, ap, ◌∙◌}
use native.Mathlib.Omega.{arith}
use lib.ListN.{length, get_or}
use lib.Seq.{length-take-le, get_or-take}
use Rattle.model.specs.Sheets.{trace_of, row_at, largest_size}
use Rattle.model.specs.Standing.{Standing}
use Rattle.model.specs.Traces.{entry, size_of}
use Rattle.model.specs.Values.{head_value_of, value_of}
use Rattle.model.specs.declared.Sheet.{Sheet}
use Rattle.model.proofs.Lists.{get_or-any}

module _ (s : Sheet) (c : Standing s) where
  -- the counts are the lengths of the value's lists
  pub segs-counted : length (value_of s).head.sizes ≡ s.head.segs
  unfolding value_of head_value_of
  segs-counted = length-take-le s.head.segs s.head.sizes (omega arith)

  pub rows-counted : length (value_of s).head.rows ≡ s.head.rows
  unfolding value_of head_value_of
  rows-counted = length-take-le s.head.rows s.head.prices (omega arith)

  pub warm-counted : length (value_of s).head.warm ≡ s.head.warm
  unfolding value_of head_value_of
  warm-counted = length-take-le s.head.warm s.head.holds (omega arith)

  pub steps-counted : length (value_of s).entries ≡ s.steps
  unfolding value_of
  steps-counted = length-take-le s.steps s.touches (omega arith)

  pub form-is : (value_of s).form ≡ s.form
  unfolding value_of
  form-is = refl

  pub marks-counted : length (value_of s).marks ≡ s.marked
  unfolding value_of
  marks-counted = length-take-le s.marked s.marks (omega arith)

  -- a sheet of form 4 has a mark for each step, and one of another form none
  pub marks-steps : 4 ≤ s.form → s.marked ≡ s.steps
  marks-steps f = sym marks-counted ∙ (c.valid.marked (rw form-is f) ∙ steps-counted)

  pub marks-none : s.form ≤ 3 → s.marked ≡ 0
  marks-none f = sym marks-counted ∙ ap length (c.valid.unmarked (rw form-is f))

  pub kind-is : (value_of s).head.kind ≡ s.head.kind
  unfolding value_of head_value_of
  kind-is = refl

  pub a_is : (value_of s).head.a ≡ s.head.a
  unfolding value_of head_value_of
  a_is = refl

  -- row r
  pub row_of : (r : ℕ) → r < s.head.rows → row_at (value_of s) r ≡ get_or s.head.prices r (record { h = 0; d = 0 })
  unfolding value_of head_value_of
  row_of r lt = get_or-take s.head.rows s.head.prices r (record { h = 0; d = 0 }) lt

  module _ (t : ℕ) (lt : t < s.steps) where
    -- the reference at place t is the entry of the step
    pub entry_of : entry (trace_of (value_of s)) t ≡ get_or s.touches t 0
    unfolding value_of
    entry_of =
        get_or-any (value_of s).entries t (length (value_of s).head.sizes) 0 (omega (arith, steps-counted))
        ∙ get_or-take s.steps s.touches t 0 lt

  module _ (i : ℕ) (lt : i < s.head.segs) where
    -- the size of segment i
    pub size-of : size_of (trace_of (value_of s)) i ≡ get_or s.head.sizes i 0
    unfolding value_of head_value_of
    size-of = get_or-take s.head.segs s.head.sizes i 0 lt

    pub size_within : get_or s.head.sizes i 0 ≤ largest_size
    size_within = rw (← size-of) (c.valid.run.size_within i (omega (arith, segs-counted)))
