-- What a conversion does to a sheet: it stays valid, its run and its rows stay, and there and back restores the bytes.
use Rattle.std.specs.Prelude.{Ok, Err}
use Prim.Native.Nat.{ℕ, ◌<◌}
use mathlib.Core.Path.{◌≡◌, refl, sym, ap, ◌∙◌}
use mathlib.Core.Logic.{⊎_elim}
use mathlib.Core.Bool.{Bool, true, false, false≢true}
use mathlib.Core.List.{List, []}
use native.Mathlib.Omega.{arith}
use borrow.Author.Tests.{leb-true, leb-false}
use lib.Dec.{leb}
use lib.ListN.{length}
use Rattle.model.specs.Rows.{row_figures}
use Rattle.model.specs.Sheets.{SheetValue, Valid, trace_of, row_at, marks_of}
use Rattle.model.specs.declared.Refusal.TheVariants.{IdleStep}
use Rattle.sheet.specs.Reading.{accepted, read_forms}
use Rattle.sheet.specs.Touches.{touches_of}
use Rattle.sheet.specs.Writing.{sheet_text}
use Rattle.sheet.proofs.Accepted.{accepted-readable, accepted-valid}
use Rattle.sheet.proofs.PartTexts.{entries_in}
use Rattle.sheet.proofs.RoundTrip.{read-then-written, written-then-read}
use Rattle.sheet.specs.Forms.{in_form, has_idle, to_form_1, to_form_2}
use Rattle.convert.proofs.Idle.{none-idle, idle-none, touches-all, touches-fewer}

-- ---- the figures stay

-- a conversion changes neither the run nor the rows
pub same-run : (form : ℕ) (v : SheetValue) → trace_of (in_form form v) ≡ trace_of v
same-run form v = refl

-- so the figures of each row are the same
pub same-figures : (form : ℕ) (v : SheetValue) (r : ℕ)
    → row_figures (trace_of (in_form form v)) (row_at (in_form form v) r).h (row_at (in_form form v) r).d
    ≡ row_figures (trace_of v) (row_at v r).h (row_at v r).d
same-figures form v r = refl

-- ---- a valid sheet without warm segments stays valid

module _ (v : SheetValue) (c : Valid v) (w : v.head.warm ≡ []) where
  -- in form 2
  pub valid-in-2 : Valid (in_form 2 v)
  valid-in-2 =
      record {
        some_form = omega arith;
        form_within = omega arith;
        rows = c.rows;
        run = c.run;
        whole = λ e. absurd (omega (arith, e));
        warm = c.warm;
        cold = λ _. w;
        marked = λ l. absurd (omega (arith, l));
        modifying = λ t e. absurd (false≢true e);
        unmarked = λ _. refl;
      }

  -- in form 1, where no step is idle
  pub valid-in-1 : has_idle v ≡ false → Valid (in_form 1 v)
  valid-in-1 n =
      record {
        some_form = omega arith;
        form_within = omega arith;
        rows = c.rows;
        run = c.run;
        whole = λ e t l.
            ⊎_elim (λ m. m) (λ i. absurd (none-idle v.entries t (length v.head.sizes) n l i)) (c.run.entry_within t l);
        warm = c.warm;
        cold = λ _. w;
        marked = λ l. absurd (omega (arith, l));
        modifying = λ t e. absurd (false≢true e);
        unmarked = λ _. refl;
      }

-- a sheet of form 1 has no idle step
pub whole-in-1 : (v : SheetValue) → Valid v → v.form ≡ 1 → has_idle v ≡ false
whole-in-1 v c e =
    idle-none v.entries (length v.head.sizes) (λ t l i. omega (arith, c.whole e t l, i, c.run.segs_within))

-- ---- when 17 is given

-- where there are fewer references than steps
pub refused-fewer : (v : SheetValue) → length (touches_of (entries_in v)) < length v.entries → to_form_1 v ≡ Err IdleStep
refused-fewer v l = go (has_idle v) refl
  where
    go : (b : Bool) → has_idle v ≡ b → to_form_1 v ≡ Err IdleStep
    go true e = rw e
    go false e = absurd (omega (arith, l, touches-all (marks_of v.marks) v.entries 0 e))

-- and not where there are as many
pub given-all : (v : SheetValue) → length (touches_of (entries_in v)) ≡ length v.entries → to_form_1 v ≡ Ok (sheet_text (in_form 1 v))
given-all v l = go (has_idle v) refl
  where
    go : (b : Bool) → has_idle v ≡ b → to_form_1 v ≡ Ok (sheet_text (in_form 1 v))
    go true e = absurd (omega (arith, l, touches-fewer (marks_of v.marks) v.entries 0 e))
    go false e = rw e

-- ---- there and back

-- in another form and back, of a sheet without marks
in-and-back : (k form : ℕ) (v : SheetValue) → v.form ≡ k → v.marks ≡ [] → in_form k (in_form form v) ≡ v
in-and-back k form v e m =
    ap (λ n. in_form n v) (sym e)
    ∙ ap (λ (ms : List Bool). record { form = v.form; head = v.head; entries = v.entries; marks = ms }) (sym m)

-- the form of a sheet that a call for one form alone accepts
form-1 : (s : List ℕ) (v : SheetValue) → read_forms 1 1 s ≡ accepted v → v.form ≡ 1
form-1 s v e = go (leb 2 v.form) refl
  where
    go : (b : Bool) → leb 2 v.form ≡ b → v.form ≡ 1
    go true h = let two = leb-true 2 v.form h in omega (arith, two, (accepted-readable 1 1 s v e).form_known two)
    go false h = omega (arith, leb-false 2 v.form h, (accepted-readable 1 1 s v e).some_form)

form-2 : (s : List ℕ) (v : SheetValue) → read_forms 2 2 s ≡ accepted v → v.form ≡ 2
form-2 s v e = let r = accepted-readable 2 2 s v e in omega (arith, r.form_taken, r.form_known r.form_taken)

-- from form 1: the text in form 2 reads as the sheet in form 2, and converting that back gives the old bytes
pub there_and_back : (s : List ℕ) (v : SheetValue) → read_forms 1 1 s ≡ accepted v
    → (read_forms 2 2 (sheet_text (in_form 2 v)) ≡ accepted (in_form 2 v)) × (to_form_1 (in_form 2 v) ≡ Ok s)
there_and_back s v e =
    let c = accepted-valid 1 1 (omega arith) s v e in
    let one = form-1 s v e in (
      written-then-read 2 2 (in_form 2 v) (omega arith) (omega arith) (valid-in-2 v c (c.cold (omega (arith, one)))),
      rw (whole-in-1 v c one)
          (ap Ok (ap sheet_text (in-and-back 1 2 v one (c.unmarked (omega (arith, one)))) ∙ read-then-written 1 1 s v e)),
    )

-- from form 2, where no step is idle: the same the other way round
pub back-and-there : (s : List ℕ) (v : SheetValue) → read_forms 2 2 s ≡ accepted v → has_idle v ≡ false
    → (read_forms 1 1 (sheet_text (in_form 1 v)) ≡ accepted (in_form 1 v)) × (to_form_2 (in_form 1 v) ≡ Ok s)
back-and-there s v e n =
    let c = accepted-valid 2 2 (omega arith) s v e in
    let two = form-2 s v e in (
      written-then-read 1 1 (in_form 1 v) (omega arith) (omega arith) (valid-in-1 v c (c.cold (omega (arith, two))) n),
      ap Ok (ap sheet_text (in-and-back 2 1 v two (c.unmarked (omega (arith, two)))) ∙ read-then-written 2 2 s v e),
    )
