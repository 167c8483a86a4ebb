-- Which row sizing gives where memory has a ceiling (request F-1, in place of document 01's "of several, any one"), and what it answers: 12
-- where there is none.
use Rattle.std.specs.Prelude.{ℕ, zero, suc, ◌≤◌, ◌<◌, cond, ◌&&◌, length, leb, ltb, Result, Ok, Err}
use Rattle.std.proofs.Math.Option.{Option, none, some}
use Rattle.model.specs.Sheets.{SheetValue, row_optmem, row_load}
use Rattle.model.specs.declared.Refusal.{Refusal}
use Rattle.model.specs.declared.Refusal.TheVariants.{NoRowFits}

-- the row chosen so far, and row q looked at after it: q is chosen where its optmem is within the ceiling and no row was chosen before,
-- or its load is less
abbrev pub chosen : SheetValue → ℕ → ℕ → Option ℕ → Option ℕ
chosen s ceiling q none = cond (leb (row_optmem s q) ceiling) (some q) none
chosen s ceiling q (some r) = cond (leb (row_optmem s q) ceiling && ltb (row_load s q) (row_load s r)) (some q) (some r)

-- the row chosen among the first n rows, looked at in order
unfoldable pub chosen_of : SheetValue → ℕ → ℕ → Option ℕ
chosen_of s ceiling zero = none
chosen_of s ceiling (suc n) = chosen s ceiling n (chosen_of s ceiling n)

-- the lowest row number with the least load among the rows with optmem within the ceiling; none where no row's is
abbrev pub sized_row : SheetValue → ℕ → Option ℕ
sized_row s ceiling = chosen_of s ceiling (length s.head.rows)

-- the row that sizing gives; 12 where there is none
abbrev pub sizing : Option ℕ → Result ℕ Refusal
sizing none = Err NoRowFits
sizing (some r) = Ok r

-- row r of the first n is within the ceiling, of the least load among such rows, and the lowest of that load
pub record Sized (s : SheetValue) (ceiling n r : ℕ) : Type 0 where
  pub is_row : r < n
  pub within : row_optmem s r ≤ ceiling
  pub least : (q : ℕ) → q < n → row_optmem s q ≤ ceiling → row_load s r ≤ row_load s q
  pub lowest : (q : ℕ) → q < r → row_optmem s q ≤ ceiling → row_load s r < row_load s q

-- the optmem of each of the first n rows exceeds the ceiling
abbrev pub NoneFits : SheetValue → ℕ → ℕ → Type 0
NoneFits s ceiling n = (q : ℕ) → q < n → ceiling < row_optmem s q
