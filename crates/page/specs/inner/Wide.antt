-- A text of so many bytes put into a lent place from an index on.
use Rattle.std.specs.Prelude.{ℕ, ◌+◌, ◌≡◌, List}
use Rattle.text.specs.inner.Puts.{Put}

-- the text was put, and it has n bytes
pub record PutWide (text : List ℕ) (n at : ℕ) (place : List ℕ) (end : ℕ) (after : List ℕ) : Type 0 where
  pub put : Put text at place end after
  pub wide : end ≡ at + n
