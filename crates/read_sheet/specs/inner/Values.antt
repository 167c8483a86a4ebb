-- What the code keeps of the line before and gives for a value, in the words of the definitions.
use Rattle.std.specs.Prelude.{List, ℕ, Option, Some, None, Result, Ok, Err}
use Rattle.std.proofs.Math.Option.{Option as Perhaps, none, some}
use Rattle.model.specs.declared.Refusal.{Refusal}
use Rattle.sheet.specs.Lines.{Parsed, read, refused}

-- what stood in the line before, if any
abbrev pub before : {A : Type 0} → Option A → Perhaps A
before None = none
before (Some x) = some x

-- what a value stands for, with what follows its line, or the refusal
abbrev pub parsed : {A : Type 0} → Result A Refusal → List ℕ → Parsed A
parsed (Ok x) rest = read x rest
parsed (Err why) rest = refused why
