-- What a call that puts a text at the front of a lent place answers and leaves there.
use Rattle.std.specs.Prelude.{Ok}
use Prim.Native.Nat.{ℕ, ◌+◌}
use mathlib.Core.Path.{◌≡◌}
use mathlib.Core.List.{List}
use native.Mathlib.Nat.{zero-add}
use native.Mathlib.Omega.{arith}
use borrow.Author.Tests.{le-leb}
use lib.ListN.{length, take, drop}
use lib.Seq.{take_at}
use Rattle.model.specs.Places.{placed, place_answer, PlaceLeft}
use Rattle.text.specs.inner.Puts.{put_at, Put}

-- the text that was put is what is left in the place
pub text-put : (t p : List ℕ) (n e : ℕ) (q : List ℕ) → n ≡ length t → Put t 0 p e q
    → PlaceLeft (Ok t) p q (Ok n)
unfolding placed place_answer put_at
text-put t p n e q l f =
    let h = le-leb (length t) (length p) (omega (arith, f.fits)) in
    record { answer_is = rw (h, l); place_is = rw h (rw zero-add at f.holds) }

-- the front of the place is the text that was put there
pub put_front : {t p q : List ℕ} {e : ℕ} → Put t 0 p e q → take e q ≡ t
unfolding put_at
put_front {t} {p} {q} {e} f = rw f.holds (take_at t (drop (0 + length t) p) e (omega (arith, f.ends)))
