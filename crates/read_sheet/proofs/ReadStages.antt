-- Laws of the end of a sheet, and of the answer with it.
use Rattle.std.specs.Prelude.{Result, Ok, Err}
use Rattle.model.specs.declared.Refusal.{Refusal}
use Rattle.model.specs.declared.Sheet.{Sheet}
use Prim.Native.Nat.{ℕ, ◌≤◌, ◌<◌, max}
use mathlib.Core.Path.{◌≡◌, refl, sym, ap, ◌∙◌}
use mathlib.Core.Bool.{Bool, true, false, cond}
use mathlib.Core.List.{List, []}
use native.Mathlib.Omega.{arith}
use lib.Dec.{ltb}
use lib.ListN.{length, take, drop_of_length-le}
use lib.Seq.{drop-cons}
use Rattle.model.specs.Sheets.{SheetValue, most_segs, most_rows, most_steps, form_bytes}
use Rattle.model.specs.declared.Head.{Head}
use Rattle.model.specs.declared.Refusal.TheVariants.{SheetTooLong, BytesAfterEnd}
use Rattle.text.specs.Keys.{form_key}
use Rattle.sheet.specs.Lines.{read, and_then, same_bytes, number_line}
use Rattle.sheet.specs.Order.{body_part, sheet_part}
use Rattle.sheet.specs.Reading.{accepted, rejected, at_end, sheet_lines, named_form, read_forms}
use Rattle.model.specs.Values.{zeros, idles, zero_rows, blank_marks, head_of, head_value_of, sheet_of}
use Rattle.sheet.specs.Answers.{answer_of}
use Rattle.scan.specs.inner.AtPlace.{Filled}
use Rattle.read_sheet.specs.inner.FormAtPlace.{form_line}
use Rattle.read_sheet.specs.inner.HeadsAtPlace.{HeadFilled}
use Rattle.read_touches.specs.inner.TouchesAtPlace.{mark_count}
use Rattle.scan.proofs.Blanks.{filled-length, filled-padded}
use Rattle.scan.proofs.NumberLines.{number-bounds}
use Rattle.scan.proofs.Tails.{tail, tail-is}

-- bytes behind the last line, and none
pub more_bytes : (v : SheetValue) (s : List ℕ) (next : ℕ) → next < length s → at_end (read v (tail s next)) ≡ rejected BytesAfterEnd
more_bytes v s next h = rw (tail-is s next, drop-cons s next 0 h)

pub no_bytes : (v : SheetValue) (s : List ℕ) (next : ℕ) → length s ≤ next → at_end (read v (tail s next)) ≡ accepted v
no_bytes v s next h = rw (tail-is s next, drop_of_length-le s h)

-- a head that holds its lists at the front of zeros is the head with its value
head-held : (h : Head) → HeadFilled h → head_of (head_value_of h) ≡ h
unfolding head_of head_value_of
head-held h f =
    rw (
      filled-length h.segs h.sizes (zeros most_segs) f.sizes,
      filled-padded h.segs h.sizes (zeros most_segs) f.sizes,
      filled-length h.rows h.prices (zero_rows most_rows) f.prices,
      filled-padded h.rows h.prices (zero_rows most_rows) f.prices,
      filled-length h.warm h.holds (zeros most_segs) f.holds,
      filled-padded h.warm h.holds (zeros most_segs) f.holds,
    )

-- so is a sheet, and the answer with it
pub finished : (form : ℕ) (h : Head) (letters : Bool) (steps marked : ℕ) (touches : List ℕ) (marks : List Bool) → HeadFilled h
    → Filled steps touches (idles most_steps) → marked ≡ mark_count letters steps
    → Filled (mark_count letters steps) marks (blank_marks most_steps)
    → Ok (record { form = form; head = h; steps = steps; touches = touches; marked = marked; marks = marks })
    ≡ answer_of (accepted (record {
      form = form;
      head = head_value_of h;
      entries = take steps touches;
      marks = cond letters (take steps marks) [];
    }))
unfolding answer_of sheet_of
finished form h letters steps marked touches marks f g e k =
    rw (
      e,
      taken letters,
      head-held h f,
      filled-length steps touches (idles most_steps) g,
      filled-padded steps touches (idles most_steps) g,
      filled-length (mark_count letters steps) marks (blank_marks most_steps) k,
      filled-padded (mark_count letters steps) marks (blank_marks most_steps) k,
    )
  where
    taken : (b : Bool) → cond b (take steps marks) [] ≡ take (mark_count b steps) marks
    taken true = refl
    taken false = refl

-- bytes beyond the limit, and within it
pub answer-long : (lo hi : ℕ) (s : List ℕ) (b : Bool) → b ≡ ltb (form_bytes (named_form s)) (length s) → b ≡ true
    → answer_of (read_forms lo hi s) ≡ Err SheetTooLong
unfolding read_forms answer_of
answer-long lo hi s b e t = rw (← e, t)

-- the form line, and then the head and the entries
sheet-form : (lo hi : ℕ) (s : List ℕ) → sheet_lines lo hi s ≡ and_then (form_line lo hi s) (λ form rest. (body_part lo form).reads rest)
unfolding sheet_part
sheet-form lo hi s = go (same_bytes (take 5 s) form_key)
  where
    go : (b : Bool)
        → cond b (and_then (number_line form_key (max 2 lo) hi s) (λ form rest. (body_part lo form).reads rest)) ((body_part lo 1).reads s)
        ≡ and_then (cond b (number_line form_key (max 2 lo) hi s) (read 1 s)) (λ form rest. (body_part lo form).reads rest)
    go true = refl
    go false = refl

pub answer-short : (lo hi : ℕ) (s : List ℕ) (r : Result Sheet Refusal) (b : Bool) → b ≡ ltb (form_bytes (named_form s)) (length s)
    → b ≡ false → r ≡ answer_of (at_end (and_then (form_line lo hi s) (λ form rest. (body_part lo form).reads rest))) → r
    ≡ answer_of (read_forms lo hi s)
unfolding read_forms
answer-short lo hi s r b e t f = rw (← e, t) (f ∙ ap (λ p. answer_of (at_end p)) (sym (sheet-form lo hi s)))

-- a form that is read fits a byte
pub form-bound : (lo hi : ℕ) (s : List ℕ) (form : ℕ) (rest : List ℕ) → hi ≤ 255 → form_line lo hi s ≡ read form rest → form ≤ 255
form-bound lo hi s form rest h = go (same_bytes (take 5 s) form_key)
  where
    go : (b : Bool) → cond b (number_line form_key (max 2 lo) hi s) (read 1 s) ≡ read form rest → form ≤ 255
    go true e = omega (arith, number-bounds form_key (max 2 lo) hi s form rest e)
    go false e = let f : ◌≡◌ {A = ℕ} 1 form = cc in omega arith
