-- `text::put_digits` meets its contract: the digits are put, and then the byte.
use Prim.Native.Nat.{◌+◌}
use mathlib.Core.Path.{◌≡◌}
use mathlib.Core.List.{[], ◌∷◌, ◌++◌}
use native.Mathlib.Omega.{arith}
use lib.ListN.{length, length-append}
use Rattle.decimal.specs.Decimal.{written}
use Rattle.text.proofs.Putting.{put_then, put_byte, put_of}
use Rattle.text.proofs.put_digits.Goals.{Start}
use Rattle.text.proofs.put_digits.Goals as goal

-- how long the text is
whole : (s : Start) → length (written s.args.n ++ (s.args.end ∷ [])) ≡ length (written s.args.n) + 1
whole s = length-append (written s.args.n) (s.args.end ∷ [])

pub returns : goal.returns
returns c =
    let w = c.write-last in
    let l = whole (goal.at.returns c).Start in
    put_then (put_of (written c.args.n) c.args.at c.args.out.now (omega arith) w.ensures.0 w.ensures.1)
    (put_byte c.args.end w.result _ (omega arith))
