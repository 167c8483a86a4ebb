-- `ones` meets its contract: the sizes of n segments were filled.
use Prim.Native.Nat.{ℕ}
use mathlib.Core.Path.{◌≡◌, ◌∙◌, ap}
use native.Mathlib.Omega.{arith}
use lib.ListN.{replicate, length-replicate}
use lib.Seq.{length-take-le}
use Rattle.model.specs.Values.{zeros, padded}
use Rattle.din.proofs.ones.Goals as goal

pub returns : goal.returns
unfolding zeros padded
returns c =
    let n = c.args.n in
    let after : c.fill.new.self ≡ replicate n 1 =
    c.fill.ensures.after (λ y h. h) ∙ ap (λ (k : ℕ). replicate k 1) (length-take-le n _ (omega (arith, c.requires, length-replicate {A = ℕ} 256 0))) in
    rw (after, length-replicate {A = ℕ} n 1)
