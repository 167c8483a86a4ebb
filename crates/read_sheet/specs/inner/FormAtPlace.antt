-- The form line as the code reads it.
use Rattle.std.specs.Prelude.{ℕ, max, cond, List, take}
use Rattle.text.specs.Keys.{form_key}
use Rattle.sheet.specs.Lines.{Parsed, read, same_bytes, number_line}

-- the form lo to hi of the form line, or 1 where the bytes do not begin with its key
abbrev pub form_line : ℕ → ℕ → List ℕ → Parsed ℕ
form_line lo hi s = cond (same_bytes (take 5 s) form_key) (number_line form_key (max 2 lo) hi s) (read 1 s)
