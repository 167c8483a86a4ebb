-- Converting there and back restores the bytes, and 17 comes exactly where there are fewer references than steps.
use Rattle.std.specs.Prelude.{Ok, Err}
use Prim.Native.Nat.{ℕ, zero, suc, ◌+◌, ◌≤◌, ◌<◌}
use mathlib.Core.Path.{◌≡◌, refl, sym, ap, ◌∙◌}
use mathlib.Core.Logic.{⊎_elim}
use mathlib.Core.Bool.{Bool, true, false, cond}
use mathlib.Core.List.{List}
use native.Mathlib.Omega.{arith}
use borrow.Author.Tests.{lt-ltb, ltb-true}
use lib.Dec.{ltb}
use lib.ListN.{length}
use Rattle.model.specs.Sheets.{SheetValue, Valid, trace_of}
use Rattle.model.specs.Traces.{Trace, segs, steps, entry, refs_by, refs_of}
use Rattle.model.specs.declared.Refusal.TheVariants.{IdleStep}
use Rattle.model.proofs.References.{refs_none, refs_next}
use Rattle.model.proofs.Sums.{last-or-below}
use Rattle.sheet.specs.Accepting.{on_sheet}
use Rattle.sheet.specs.Reading.{Outcome, accepted, rejected, read_forms}
use Rattle.sheet.specs.Writing.{sheet_text}
use Rattle.sheet.proofs.Accepted.{accepted-valid}
use Rattle.sheet.specs.Forms.{in_form, has_idle, to_form_1, to_form_2}
use Rattle.convert.proofs.Conversions.{there_and_back, back-and-there}
use Rattle.convert.proofs.Idle.{none-idle, idle-none}
use Rattle.analyser.specs.Sheets.{to_form_2_result, to_form_1_result}
use Rattle.analyser.specs.RoundTrip.{ThereAndBack}
use Rattle.analyser.proofs.Given.{given-same, given_by}

-- ---- references and steps

module _ (T : Trace) where
  -- there are at most as many references as steps
  refs-within : (n : ℕ) → refs_by T n ≤ n
  refs-within zero = omega (arith, refs_none T)
  refs-within (suc n) = go (ltb (entry T n) (segs T)) (refs_next T n) (refs-within n)
    where
      go : (b : Bool) → refs_by T (suc n) ≡ refs_by T n + cond b 1 0 → refs_by T n ≤ n → refs_by T (suc n) ≤ suc n
      go true e most = omega arith
      go false e most = omega arith

  -- where there are as many, each step has one
  refs-each : (n : ℕ) → refs_by T n ≡ n → (t : ℕ) → t < n → entry T t < segs T
  refs-each zero all t lt = absurd (omega arith)
  refs-each (suc n) all t lt = go (ltb (entry T n) (segs T)) refl (refs_next T n) (refs-within n) (λ e l. refs-each n e t l)
    where
      go : (b : Bool) → ltb (entry T n) (segs T) ≡ b → refs_by T (suc n) ≡ refs_by T n + cond b 1 0 → refs_by T n ≤ n
          → (refs_by T n ≡ n → t < n → entry T t < segs T) → entry T t < segs T
      go true f e most before =
          ⊎_elim (λ same. rw same (ltb-true (entry T n) (segs T) f)) (λ l. before (omega arith) l) (last-or-below n t lt)
      go false f e most before = absurd (omega arith)

  -- and back
  each-refs : (n : ℕ) → ((t : ℕ) → t < n → entry T t < segs T) → refs_by T n ≡ n
  each-refs zero each = refs_none T
  each-refs (suc n) each =
      let one : ◌≡◌ {A = ℕ} (cond (ltb (entry T n) (segs T)) 1 0) 1 = rw (lt-ltb (entry T n) (segs T) (each n (omega arith))) in
      omega (arith, refs_next T n, each-refs n (λ t l. each t (omega arith)))

-- a valid sheet has an idle step exactly where it has fewer references than steps
module _ (v : SheetValue) (c : Valid v) where
  all-touch : refs_of (trace_of v) ≡ steps (trace_of v) → has_idle v ≡ false
  all-touch all =
      idle-none v.entries (length v.head.sizes)
      (λ t l i. omega (arith, refs-each (trace_of v) (steps (trace_of v)) all t l, i, c.run.segs_within))

  some-idle : refs_of (trace_of v) < steps (trace_of v) → has_idle v ≡ true
  some-idle fewer = go (has_idle v) refl
    where
      go : (b : Bool) → has_idle v ≡ b → has_idle v ≡ true
      go true e = e
      go false e =
          let each : (t : ℕ) → t < length v.entries → entry (trace_of v) t < length v.head.sizes =
          λ t l. ⊎_elim (λ m. m) (λ i. absurd (none-idle v.entries t (length v.head.sizes) e l i)) (c.run.entry_within t l) in
          absurd (omega (arith, each-refs (trace_of v) (steps (trace_of v)) each))

-- ---- there and back

-- the sheet of form 2 that a text in form 1 is given for
taken_back : (o : Outcome) (text : List ℕ) → on_sheet o Err to_form_1 ≡ Ok text
    → (u : SheetValue) × (o ≡ accepted u) × (has_idle u ≡ false) × (text ≡ sheet_text (in_form 1 u))
taken_back (rejected q) text e = absurd (let z : ◌≡◌ {A = ℕ} 0 1 = cc in omega arith)
taken_back (accepted u) text e = go (has_idle u) refl e
  where
    go : (b : Bool) → has_idle u ≡ b → cond b (Err IdleStep) (Ok (sheet_text (in_form 1 u))) ≡ Ok text
        → (w : SheetValue) × (accepted u ≡ accepted w) × (has_idle w ≡ false) × (text ≡ sheet_text (in_form 1 w))
    go true f g = absurd (let z : ◌≡◌ {A = ℕ} 0 1 = cc in omega arith)
    go false f g = (u, refl, f, sym (given-same (sheet_text (in_form 1 u)) text g))

module _ (s : List ℕ) where
  to-2-back : (text : List ℕ) → to_form_2_result s ≡ Ok text → to_form_1_result text ≡ Ok s
  unfolding to_form_2_result to_form_1_result
  to-2-back text e =
      let given = given_by (λ u. sheet_text (in_form 2 u)) (read_forms 1 1 s) text e in
      let both = there_and_back s given.0 given.1 in
      ap (λ (t : List ℕ). on_sheet (read_forms 2 2 t) Err to_form_1) given.2
      ∙ ap (λ o. on_sheet o Err to_form_1) both.0 ∙ both.1

  to-1-back : (text : List ℕ) → to_form_1_result s ≡ Ok text → to_form_2_result text ≡ Ok s
  unfolding to_form_2_result to_form_1_result
  to-1-back text e =
      let given = taken_back (read_forms 2 2 s) text e in
      let both = back-and-there s given.0 given.1 given.2 in
      ap (λ (t : List ℕ). on_sheet (read_forms 1 1 t) Err to_form_2) given.3
      ∙ ap (λ o. on_sheet o Err to_form_2) both.0 ∙ both.1

  pub there-and-back-of : ThereAndBack s
  unfolding to_form_2_result to_form_1_result
  there-and-back-of =
      record {
        to_2_and_back = to-2-back;
        to_1_and_back = to-1-back;
        to_2_given = λ v reads. rw reads;
        to_1_given = λ v reads all. rw (reads, all-touch v (accepted-valid 2 2 (omega arith) s v reads) all);
        to_1_refused = λ v reads fewer. rw (reads, some-idle v (accepted-valid 2 2 (omega arith) s v reads) fewer);
      }
