-- The sign of the margin that the margin call answers for an accepted sheet: 0 or more exactly when the reuse is kept at that row.
use Rattle.std.specs.Prelude.{Result, Ok, ℤ, pos}
use Rattle.model.specs.Refusals.{value_or_zero}
use Rattle.model.specs.declared.Refusal.{Refusal}
use Prim.Native.Nat.{ℕ, ◌≤◌, ◌<◌}
use mathlib.Core.Path.{◌≡◌, ap, ◌∙◌}
use mathlib.Core.Bool.{true}
use mathlib.Core.List.{List}
use lib.ListN.{length}
use lib.Signed.{non_neg}
use Rattle.model.specs.Figures.{is_reuse, kept, margin_at}
use Rattle.model.specs.Sheets.{SheetValue, trace_of, row_at}
use Rattle.model.specs.Traces.{entry, unreferenced, refs_of, place_of}
use Rattle.model.proofs.Margins.{reuse-margin}
use Rattle.sheet.specs.Reading.{accepted, read_sheet}
use Rattle.model.specs.Margins.{touch_margin}
use Rattle.margin.proofs.MarginResults.{margin-at}
use Rattle.analyser.specs.Figures.{margin_answer}

-- the n-th reference, counted from 1, at row r of the sheet v that a run of bytes s reads as
module _ (s : List ℕ) (v : SheetValue) (reads : read_sheet s ≡ accepted v) (r n : ℕ) (row : r < length v.head.rows) (some : 1 ≤ n)
    (within : n ≤ refs_of (trace_of v)) where
  -- it is a reuse
  abbrev pub Reuse : Type 0
  Reuse = is_reuse (unreferenced (trace_of v) (place_of (trace_of v) n) (entry (trace_of v) (place_of (trace_of v) n))) ≡ true

  -- a reuse is answered with its margin
  pub reuse-answered : Reuse
      → margin_answer s r n
      ≡ Ok (margin_at (trace_of v) (row_at v r).h (row_at v r).d (place_of (trace_of v) n) (entry (trace_of v) (place_of (trace_of v) n)))
  unfolding margin_answer touch_margin
  reuse-answered e = rw reads (margin-at v r n row some within ∙ rw e)

  -- which is 0 or more exactly when the reuse is kept
  pub answered-sign : Reuse
      → non_neg (value_or_zero (pos 0) (margin_answer s r n))
      ≡ kept (trace_of v) (row_at v r).h (row_at v r).d (place_of (trace_of v) n) (entry (trace_of v) (place_of (trace_of v) n))
  answered-sign e =
      ap (λ (m : Result ℤ Refusal). non_neg (value_or_zero (pos 0) m)) (reuse-answered e)
      ∙ reuse-margin (trace_of v) (row_at v r).h (row_at v r).d (place_of (trace_of v) n) (entry (trace_of v) (place_of (trace_of v) n)) e
