-- What the call by distances answers and leaves, by what reading came to.
use Rattle.model.specs.Refusals.{value_or_zero}
use Rattle.std.specs.Prelude.{Result, Ok, Err}
use Rattle.model.specs.declared.Sheet.{Sheet}
use Rattle.replacement.specs.declared.Curve.{Curve}
use Prim.Native.Nat.{ℕ, ◌*◌}
use mathlib.Core.Path.{◌≡◌, sym, ap, ◌∙◌}
use mathlib.Core.List.{List}
use native.Mathlib.Omega.{arith}
use Rattle.model.specs.Places.{answer_for}
use Rattle.model.specs.Sheets.{SheetValue, trace_of}
use Rattle.model.specs.Traces.{steps, refs_of}
use Rattle.model.specs.Values.{value_of}
use Rattle.model.specs.declared.Refusal.{Refusal}
use Rattle.sheet.specs.Answers.{answer_of}
use Rattle.sheet.specs.Reading.{read_sheet}
use Rattle.sheet.proofs.Accepting.{on-refused, on-accepted, result-refused, result-accepted}
use Rattle.replacement.specs.Recency.{distinct}
use Rattle.replacement.specs.Answers.{curve_for, no_curve, curve_length, looked_for}
use Rattle.lru_curve.specs.inner.Left.{CurveLeft}
use Rattle.analyser.specs.Curves.{lru_result, lru_looked, lru_most, LruLeft}

-- what is looked at for a sheet
abbrev looked_at : List ℕ → SheetValue → ℕ
looked_at place v = looked_for v (answer_for (curve_for v) place)

-- the most that may be
abbrev most_for : SheetValue → ℕ
most_for v = refs_of (trace_of v) * distinct (trace_of v) (steps (trace_of v))

pub lru-refused : (s : List ℕ) (place : List ℕ) {answer : Result Curve Refusal} {q : Refusal} → answer ≡ Err q
    → Err q ≡ answer_of (read_sheet s) → LruLeft s place place answer
unfolding lru_result lru_looked lru_most
lru-refused s place {answer} {q} n e =
    record {
      left = result-refused (read_sheet s) place curve_for (ap curve_length n) e;
      looked_is = ap (λ (c : Result Curve Refusal). (value_or_zero no_curve c).looked) n
          ∙ sym (on-refused (read_sheet s) q e (λ why. 0) (looked_at place));
      bounded = omega (arith, ap (λ (c : Result Curve Refusal). (value_or_zero no_curve c).looked) n);
    }

pub lru-accepted : (s : List ℕ) {place place' : List ℕ} {A : Sheet} {answer : Result Curve Refusal}
    → CurveLeft (value_of A) place place' answer → Ok A ≡ answer_of (read_sheet s) → LruLeft s place place' answer
unfolding lru_result lru_looked lru_most
lru-accepted s {place} {place'} {A} {answer} c e =
    record {
      left = result-accepted (read_sheet s) curve_for c.left e;
      looked_is =
          c.looked_is
          ∙ ap (λ (p : Result ℕ Refusal). looked_for (value_of A) p) c.left.answer_is
          ∙ sym (on-accepted (read_sheet s) A e (λ why. 0) (looked_at place));
      bounded = rw (on-accepted (read_sheet s) A e (λ why. 0) most_for) c.bounded;
    }
