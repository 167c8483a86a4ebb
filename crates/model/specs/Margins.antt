-- What is answered for the margin of a reference of a sheet: 7, 14, 15.
use Rattle.std.specs.Prelude.{ℕ, cond, ◌&&◌, length, leb, ltb, ℤ, Result, Ok, Err}
use Rattle.model.specs.Figures.{is_reuse, margin_at}
use Rattle.model.specs.Sheets.{SheetValue, trace_of, row_at}
use Rattle.model.specs.Traces.{entry, unreferenced, refs_of, place_of}
use Rattle.model.specs.declared.Refusal.{Refusal}
use Rattle.model.specs.declared.Refusal.TheVariants.{NoSuchRow, NoSuchReference, FirstTouch}

-- the margin of the touch at place t: 15 where it is the first touch of a segment that is not warm (F-6)
unfoldable pub touch_margin : SheetValue → ℕ → ℕ → Result ℤ Refusal
touch_margin v r t =
    cond (is_reuse (unreferenced (trace_of v) t (entry (trace_of v) t)))
    (Ok (margin_at (trace_of v) (row_at v r).h (row_at v r).d t (entry (trace_of v) t)))
    (Err FirstTouch)

-- the margin of the n-th reference, counted from 1, at row r of a sheet: 7, then 14, then 15. Steps without a touch do not count
unfoldable pub margin_for : SheetValue → ℕ → ℕ → Result ℤ Refusal
margin_for v r n =
    cond (ltb r (length v.head.rows))
    (cond (leb 1 n && leb n (refs_of (trace_of v))) (touch_margin v r (place_of (trace_of v) n)) (Err NoSuchReference))
    (Err NoSuchRow)
