-- Laws of a line that was read, by the cases of a result.
use Prim.Native.Nat.{ℕ, ◌≤◌}
use mathlib.Core.Path.{◌≡◌, sym, ap, ◌∙◌}
use mathlib.Core.List.{List}
use native.Mathlib.Omega.{arith}
use lib.ListN.{length, drop}
use Rattle.std.specs.Prelude.{Result, Ok, Err, IsErrAnd}
use Rattle.model.specs.declared.Refusal.{Refusal}
use Rattle.sheet.specs.Lines.{Parsed, read, refused}
use Rattle.scan.specs.inner.AtPlace.{parsed_line, line_next, LineReads}

-- what a `?` hands on: the refusal d
pub exits : {T E : Type 0} (r : Result T E) (d : E) → IsErrAnd r (λ y. y ≡ d) → r ≡ Err d
exits (Ok x) d h = absurd h
exits (Err y) d h = ap Err h

-- what a line gives and what follows it, which stands within the bytes
pub line_read : {A : Type 0} {s : List ℕ} {r : Result (A × ℕ) Refusal} {p : Parsed A} {x : A} {next : ℕ} → LineReads s r p
    → r ≡ Ok (x, next) → p ≡ read x (drop next s)
line_read w m = sym w.same ∙ ap (parsed_line _) m

pub line-place : {A : Type 0} {s : List ℕ} {r : Result (A × ℕ) Refusal} {p : Parsed A} {x : A} {next : ℕ} → LineReads s r p
    → r ≡ Ok (x, next) → next ≤ length s
line-place w m = omega (arith, w.within, ap line_next m)

-- or the refusal
pub line-refused : {A : Type 0} {s : List ℕ} {r : Result (A × ℕ) Refusal} {p : Parsed A} {why : Refusal} → LineReads s r p
    → r ≡ Err why → p ≡ refused why
line-refused w m = sym w.same ∙ ap (parsed_line _) m
