-- What is stored of a recorder, part by part.
use Rattle.std.specs.Prelude.{ℕ, ◌≡◌, List}
use Rattle.recorder.specs.declared.Recorder.{Recorder}
use Rattle.c_lists.specs.Recorders.{lists_of}

-- what is stored of a recorder at the start: its kind, a, segs, rows and warm, its sizes, its warm segments and its prices
pub record HeadStored (R : Recorder) (head sizes holds h d : List ℕ) : Type 0 where
  pub head_is : head ≡ (lists_of R).head
  pub sizes_are : sizes ≡ (lists_of R).sizes
  pub holds_are : holds ≡ (lists_of R).holds
  pub h_are : h ≡ (lists_of R).h
  pub d_are : d ≡ (lists_of R).d

-- what is stored of it at the start and after steps: how many, Q and V, the table of last touches, the sums
pub record TakenStored (R : Recorder) (counts last sums : List ℕ) : Type 0 where
  pub counts_are : counts ≡ (lists_of R).counts
  pub last_is : last ≡ (lists_of R).last
  pub sums_are : sums ≡ (lists_of R).sums
