-- `page::put_title` meets its contract: the words, the number and the end of the line are put.
use Prim.Native.Nat.{◌≤◌}
use mathlib.Core.List.{◌∷◌, ◌++◌}
use native.Mathlib.Omega.{arith}
use lib.ListN.{length}
use Rattle.decimal.specs.Decimal.{written}
use Rattle.decimal.proofs.Written.{written-length}
use Rattle.text.specs.Keys.{kind_key, kind_word, a_key}
use Rattle.text.proofs.Putting.{put_then, put_same, put_of}
use Rattle.page.specs.Page.{blank}
use Rattle.page.proofs.Parts.{kind-within, title-parts}
use Rattle.page.proofs.put_title.Goals.{Start}
use Rattle.page.proofs.put_title.Goals as goal

-- how long the words and the number can be
record Few (s : Start) : Type 0 where
  words : length (kind_key ++ (kind_word s.args.kind ++ (blank ∷ a_key))) ≤ 13
  digits : length (written s.args.a) ≤ 3

few : (s : Start) → Few s
few s = record { words = kind-within s.args.kind; digits = written-length 2 s.args.a (omega arith) }

pub returns : goal.returns
returns c =
    let a = c.args in
    let r = few (goal.at.returns c).Start in
    let p = put_of (written a.a) _ _ (omega arith) c.write-end.ensures.0 c.write-end.ensures.1 in
    let q = put_then c.put_kind-value.ensures (put_then p c.put_end.ensures.put) in
    let t = title-parts a.kind a.a _ _ _ c.put_kind-value.ensures.ends c.write-end.ensures.0 in
    record { put = put_same t q; wide = omega arith }

pub write-end-requires : goal.write-end-requires
write-end-requires c = let r = few (goal.at.write-end-requires c).Start in omega arith

pub overflow_sub-at : goal.overflow_sub-at
overflow_sub-at c = let r = few (goal.at.overflow_sub-at c).Start in omega arith

pub put_end-requires : goal.put_end-requires
put_end-requires c = let r = few (goal.at.put_end-requires c).Start in omega arith
