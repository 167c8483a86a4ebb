-- `pricing::byte_words::joined` meets its contract.
use Prim.Native.Nat.{◌+◌}
use mathlib.Core.Path.{ap, ◌∙◌}
use native.Mathlib.Omega.{arith}
use lib.ListN.{get_or}
use Rattle.model.specs.Schedules.{bit}
use Rattle.pricing.proofs.Bytes.{bit-of_bytes, eight-bytes}
use Rattle.pricing.proofs.byte_words.joined.Goals as goal

pub returns : goal.returns
returns c = λ k lt.
    let s = c.args.s.now in
    let at = c.args.at in
    ap (λ n. bit n k) (omega (arith, eight-bytes (λ i. get_or s i 0) at))
    ∙ bit-of_bytes 8 (λ j. get_or s (at + j) 0) (λ j. omega (arith, c.type_inv.s (at + j))) k lt
