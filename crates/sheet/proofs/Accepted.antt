-- What is accepted is valid: the lines of a sheet ask of its value what the limits ask, and no more.
use Prim.Native.Nat.{ℕ, zero, suc, ◌-◌, ◌≤◌, ◌<◌}
use mathlib.Core.Path.{◌≡◌, refl, sym, ap, subst}
use mathlib.Core.Logic.{◌⊎◌, inl}
use mathlib.Core.Bool.{Bool, true, false, ◌&&◌, false≢true}
use mathlib.Core.List.{List, [], ◌∷◌}
use mathlib.Core.Option.{none}
use native.Mathlib.Omega.{arith}
use borrow.Author.Tests.{le-leb, lt-leb, leb-true, leb-false, lt-ltb, ltb-true, ltb-false}
use lib.Dec.{leb, ltb}
use lib.ListN.{length, get_or}
use Rattle.decimal.proofs.Digits.{both}
use Rattle.model.specs.Sheets.{SheetValue, Valid, WarmWithin, row_at, idle, newest_form, form_bytes, most_steps, largest_size}
use Rattle.model.specs.Sheets.{largest_price}
use Rattle.model.specs.declared.PriceRow.{PriceRow}
use Rattle.model.specs.declared.Refusal.{Refusal}
use Rattle.model.specs.declared.Refusal.TheVariants.{SheetTooLong}
use Rattle.sheet.specs.Lines.{Parsed, read, refused}
use Rattle.sheet.specs.Values.{above, in_prices}
use Rattle.sheet.specs.Warm.{above_hold}
use Rattle.sheet.specs.Reading.{sheet_lines, named_form, Outcome, accepted, rejected, at_end, read_forms}
use Rattle.sheet.proofs.Parsing.{by-test}
use Rattle.text.proofs.Runs.{before, each_at, each_of}
use Rattle.model.proofs.Warm.{warm-few}
use Rattle.sheet.proofs.Words.{RowFits, HoldFits}
use Rattle.sheet.proofs.SheetLines.{From, EntriesFit, WarmFits, Readable, sheet-reads}
use Rattle.sheet.proofs.Touches.{EntryFits, MarksFit, marks-touched}

-- ---- the prices of a row

-- prices that pass the test lie within their ranges
pub prices-within : (h d : ℕ) → in_prices h d ≡ true → (h ≤ largest_price) × (1 ≤ d) × (d ≤ largest_price)
prices-within h d e =
    let (a, b) = both (leb h largest_price) (leb 1 d && leb d largest_price) e in
    let (l, u) = both (leb 1 d) (leb d largest_price) b in
    (leb-true h largest_price a, leb-true 1 d l, leb-true d largest_price u)

-- and prices within their ranges pass it
pub within-prices : (h d : ℕ) → h ≤ largest_price → 1 ≤ d → d ≤ largest_price → in_prices h d ≡ true
within-prices h d a l u = rw (le-leb h largest_price a, le-leb 1 d l, le-leb d largest_price u)

-- ---- readable is valid, and valid is readable

-- the row that stands for one beyond the list
zero_row : PriceRow
zero_row = record { h = 0; d = 0 }

-- entries that fit are segments or idle
entries-within : (later : Bool) (segs : ℕ) (xs : List ℕ) → 1 ≤ segs → EntriesFit later segs xs
    → (length xs ≤ most_steps) × ((t : ℕ) → t < length xs → (get_or xs t segs < segs) ⊎ (get_or xs t segs ≡ idle))
entries-within true segs xs some (l, c) = (l, λ t lt. each_at (EntryFits segs) segs none xs c t lt)
entries-within false segs xs some (l, c) = (l, λ t lt. inl (omega (arith, (each_at (From 0 (segs - 1)) segs none xs c t lt).1)))

-- those of form 1 are segments
entries-whole : (later : Bool) (segs : ℕ) (xs : List ℕ) → later ≡ false → 1 ≤ segs → EntriesFit later segs xs
    → (t : ℕ) → t < length xs → get_or xs t segs < segs
entries-whole true segs xs e some c t lt = absurd (false≢true (sym e))
entries-whole false segs xs e some c t lt = omega (arith, (each_at (From 0 (segs - 1)) segs none xs c.1 t lt).1)

-- and back
within-entries : (later : Bool) (segs : ℕ) (xs : List ℕ) → length xs ≤ most_steps
    → ((t : ℕ) → t < length xs → (get_or xs t segs < segs) ⊎ (get_or xs t segs ≡ idle))
    → (later ≡ false → (t : ℕ) → t < length xs → get_or xs t segs < segs) → EntriesFit later segs xs
within-entries true segs xs l f g = (l, each_of (EntryFits segs) segs none xs f)
within-entries false segs xs l f g = (l, each_of (From 0 (segs - 1)) segs none xs (λ t lt. omega (arith, g refl t lt)))

-- warm segments that fit are segments, ascending
warm_within : (later : Bool) (segs : ℕ) (xs : List ℕ) → 1 ≤ segs → WarmFits later segs xs → WarmWithin segs xs
warm_within true segs xs some (l, c) =
    let hold = each_at (HoldFits segs) 0 none xs c in
    record { below = λ k lt. omega (arith, (hold k lt).0.1); ascending = λ k lt. ltb-true _ _ (hold (suc k) lt).1 }
warm_within false segs xs some e = rw e (record { below = λ k lt. absurd (omega arith); ascending = λ k lt. absurd (omega arith) })

-- before form 3 there are none
warm-none : (later : Bool) (segs : ℕ) (xs : List ℕ) → later ≡ false → WarmFits later segs xs → xs ≡ []
warm-none true segs xs e c = absurd (false≢true (sym e))
warm-none false segs xs e c = c

-- and back
within-warm : (later : Bool) (segs : ℕ) (xs : List ℕ) → WarmWithin segs xs → (later ≡ false → xs ≡ []) → WarmFits later segs xs
within-warm false segs xs c f = f refl
within-warm true segs xs c f = (
  warm-few segs xs c,
  each_of (HoldFits segs) 0 none xs (λ k lt. ((omega arith, omega (arith, c.below k lt)), ascends k lt)),
)
  where
    ascends : (k : ℕ) → k < length xs → above_hold (before 0 none xs k) (get_or xs k 0) ≡ true
    ascends zero lt = refl
    ascends (suc k) lt = lt-ltb _ _ (c.ascending k lt)

-- what the lines ask is all that the limits ask
pub readable-valid : (lo hi : ℕ) → hi ≤ newest_form → (v : SheetValue) → Readable lo hi v → Valid v
unfolding zero_row
readable-valid lo hi new v c =
    let size = each_at (From 1 largest_size) 0 none v.head.sizes c.sizes_fit in
    let (steps, entry) = entries-within (leb 2 v.form) (length v.head.sizes) v.entries c.segs_fit.0 c.entries_fit in
    let row = each_at RowFits zero_row none v.head.rows c.prices_fit in
    let price : (r : ℕ) → r < length v.head.rows → ((row_at v r).h ≤ largest_price) × (1 ≤ (row_at v r).d) ×
    ((row_at v r).d ≤ largest_price) =
    λ r l. prices-within (row_at v r).h (row_at v r).d (row r l).0 in
    record {
      some_form = c.some_form;
      form_within = form;
      rows =
          record {
            some_rows = c.rows_fit.0;
            rows_within = c.rows_fit.1;
            h_within = λ r l. (price r l).0;
            some_d = λ r l. (price r l).1;
            d_within = λ r l. (price r l).2;
            ascending = λ r l. ltb-true _ _ (row (suc r) l).1;
          };
      run =
          record {
            a_within = c.a_fits.1;
            some_segs = c.segs_fit.0;
            segs_within = c.segs_fit.1;
            some_size = λ i l. (size i l).0;
            size_within = λ i l. (size i l).1;
            steps_within = steps;
            entry_within = entry;
          };
      whole = λ e. entries-whole (leb 2 v.form) (length v.head.sizes) v.entries (ap (λ k. leb 2 k) e) c.segs_fit.0
          c.entries_fit;
      warm = warm_within (leb 3 v.form) (length v.head.sizes) v.head.warm c.segs_fit.0 c.warm_fits;
      cold = λ l. warm-none (leb 3 v.form) (length v.head.sizes) v.head.warm (lt-leb 3 v.form (omega arith)) c.warm_fits;
      marked = λ l. (marks (le-leb 4 v.form l)).0;
      modifying = marks-touched (leb 4 v.form) (length v.head.sizes) v.entries v.marks c.marks_fit;
      unmarked = λ l. marks (lt-leb 4 v.form (omega arith));
    }
  where
    marks : {b : Bool} → leb 4 v.form ≡ b → MarksFit b (length v.head.sizes) v.entries v.marks
    marks e = subst (λ b. MarksFit b (length v.head.sizes) v.entries v.marks) e c.marks_fit

    form : v.form ≤ newest_form
    form = go (leb 2 v.form) refl
      where
        go : (b : Bool) → leb 2 v.form ≡ b → v.form ≤ newest_form
        go true e = omega (arith, c.form_known (leb-true 2 v.form e))
        go false e = omega (arith, leb-false 2 v.form e)

-- and the limits ask all that the lines do
pub valid-readable : (lo hi : ℕ) (v : SheetValue) → lo ≤ v.form → v.form ≤ hi → Valid v → Readable lo hi v
unfolding zero_row
valid-readable lo hi v l h c =
    record {
      some_form = c.some_form;
      form_taken = l;
      form_known = λ _. h;
      a_fits = omega (arith, c.run.a_within);
      segs_fit = (c.run.some_segs, c.run.segs_within);
      sizes_fit = each_of (From 1 largest_size) 0 none v.head.sizes (λ i l. (c.run.some_size i l, c.run.size_within i l));
      rows_fit = (c.rows.some_rows, c.rows.rows_within);
      prices_fit = each_of RowFits zero_row none v.head.rows
          (λ r l. (within-prices _ _ (c.rows.h_within r l) (c.rows.some_d r l) (c.rows.d_within r l), ascends r l));
      warm_fits = within-warm (leb 3 v.form) (length v.head.sizes) v.head.warm c.warm
          (λ e. c.cold (omega (arith, leb-false 3 v.form e)));
      entries_fit = within-entries (leb 2 v.form) (length v.head.sizes) v.entries c.run.steps_within c.run.entry_within
          (λ e. c.whole (omega (arith, c.some_form, leb-false 2 v.form e)));
      marks_fit = marks (leb 4 v.form) refl;
    }
  where
    marks : (b : Bool) → leb 4 v.form ≡ b → MarksFit b (length v.head.sizes) v.entries v.marks
    marks true e = (c.marked (leb-true 4 v.form e), c.modifying)
    marks false e = c.unmarked (omega (arith, leb-false 4 v.form e))

    ascends : (r : ℕ) → r < length v.head.rows → above (before zero_row none v.head.rows r) (row_at v r) ≡ true
    ascends zero l = refl
    ascends (suc r) l = lt-ltb _ _ (c.rows.ascending r l)

-- ---- what is accepted

-- it is not too long, and its lines are read with nothing after them
pub accepted-read : (lo hi : ℕ) (s : List ℕ) (v : SheetValue) → read_forms lo hi s ≡ accepted v
    → (length s ≤ form_bytes (named_form s)) × (sheet_lines lo hi s ≡ read v [])
unfolding read_forms
accepted-read lo hi s v e =
    by-test (ltb (form_bytes (named_form s)) (length s)) (rejected SheetTooLong) (at_end (sheet_lines lo hi s)) (accepted v) e
    (λ h f. absurd (never f))
    (λ h f. (ltb-false (form_bytes (named_form s)) (length s) h, ended (sheet_lines lo hi s) f))
  where
    never : {r : Refusal} → ◌≡◌ {A = Outcome} (rejected r) (accepted v) → ⊥
    never f = let z : ◌≡◌ {A = ℕ} 0 1 = cc in omega arith

    ended : (p : Parsed SheetValue) → at_end p ≡ accepted v → p ≡ read v []
    ended (read w []) f = cc
    ended (read w (b ∷ rest)) f = absurd (never f)
    ended (refused r) f = absurd (never f)

-- it is readable by the call
pub accepted-readable : (lo hi : ℕ) (s : List ℕ) (v : SheetValue) → read_forms lo hi s ≡ accepted v → Readable lo hi v
accepted-readable lo hi s v e = ((sheet-reads lo hi).back s v [] (accepted-read lo hi s v e).1).1

-- and it is valid
pub accepted-valid : (lo hi : ℕ) → hi ≤ newest_form → (s : List ℕ) (v : SheetValue) → read_forms lo hi s ≡ accepted v → Valid v
accepted-valid lo hi new s v e = readable-valid lo hi new v (accepted-readable lo hi s v e)

-- its form is one that the call takes
pub accepted-form : (lo hi : ℕ) → 1 ≤ hi → (s : List ℕ) (v : SheetValue) → read_forms lo hi s ≡ accepted v → (lo ≤ v.form) × (v.form ≤ hi)
accepted-form lo hi some s v e =
    let c = accepted-readable lo hi s v e in
    (c.form_taken, go (leb 2 v.form) refl c.form_known)
  where
    go : (b : Bool) → leb 2 v.form ≡ b → (2 ≤ v.form → v.form ≤ hi) → v.form ≤ hi
    go true h known = known (leb-true 2 v.form h)
    go false h known = omega (arith, leb-false 2 v.form h)
