-- A sheet that was read and is written again: its text is the bytes that were read, and so as long.
use Rattle.std.specs.Prelude.{Result, Ok, Err}
use Rattle.model.specs.declared.Refusal.{Refusal}
use Rattle.model.specs.declared.Sheet.{Sheet}
use Prim.Native.Nat.{ℕ, ◌≤◌}
use mathlib.Core.Path.{◌≡◌, refl, ap, ◌∙◌}
use mathlib.Core.List.{List}
use native.Mathlib.Omega.{arith}
use lib.ListN.{length}
use Rattle.model.specs.Sheets.{newest_form}
use Rattle.model.specs.Values.{sheet_of, value_of}
use Rattle.sheet.specs.Answers.{answer_of}
use Rattle.sheet.specs.Reading.{Outcome, accepted, rejected, read_sheet}
use Rattle.sheet.specs.Writing.{sheet_text}
use Rattle.sheet.proofs.Held.{held-text}

pub as_long : (s : List ℕ) (A : Sheet) → Ok A ≡ answer_of (read_sheet s) → length (sheet_text (value_of A)) ≤ length s
unfolding answer_of
as_long s A e = go (read_sheet s) refl e
  where
    go : (o : Outcome) → read_sheet s ≡ o → Ok A ≡ answer_of o → length (sheet_text (value_of A)) ≤ length s
    go (accepted v) f e =
        let held_as : A ≡ sheet_of v = cc in
        let same : sheet_text (value_of A) ≡ s = ap (λ (B : Sheet). sheet_text (value_of B)) held_as ∙ held-text 1 newest_form s v f in
        omega (arith, ap length same)
    go (rejected p) f e = absurd cc
