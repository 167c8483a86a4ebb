-- Parts of a text: which lines a value has, and which value is read from the head of a run of bytes. Parts follow one another, each
-- read after the values of those before it.
use Rattle.std.specs.Prelude.{ℕ, List, [], ◌++◌, length}
use Rattle.text.specs.Texts.{line_text, lines_text}
use Rattle.sheet.specs.Lines.{Parsed, read, and_then}

-- a line: its key and its value
abbrev pub Line : Type 0
Line = List ℕ × List ℕ

-- the text of lines
abbrev pub text_of : List Line → List ℕ
text_of ls = lines_text (λ l. line_text l.0 l.1) ls

-- a part: the lines of a value, and how it is read
pub record Part (A : Type 0) : Type 0 where
  pub lines : A → List Line
  pub reads : List ℕ → Parsed A

-- no more lines: the value v
abbrev pub whole : {B : Type 0} → B → Part B
whole v = record { lines = λ w. []; reads = λ s. read v s }

-- the part p, with the value that the whole gives it, and what follows it
abbrev pub then : {A B : Type 0} → Part A → (B → A) → (A → Part B) → Part B
then p of more =
    record {
      lines = λ v. p.lines (of v) ++ (more (of v)).lines v;
      reads = λ s. and_then (p.reads s) (λ a rest. (more a).reads rest);
    }

-- the line that counts the elements of a list, and so many lines
abbrev pub counted : {A : Type 0} → Part ℕ → (ℕ → Part (List A)) → Part (List A)
counted count each = then count length each
