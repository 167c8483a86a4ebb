-- The value of a head whose counts are cut off at the lengths of its arrays: it is the same.
use Prim.Native.Nat.{ℕ, min}
use mathlib.Core.Path.{◌≡◌, sym, ◌∙◌}
use mathlib.Core.List.{List}
use native.Mathlib.Nat.{min-eq_left}
use native.Mathlib.Omega.{arith}
use borrow.Author.Tests.{leb-true, leb-false}
use borrow.Table.Steps.{cases}
use lib.Dec.{leb}
use lib.ListN.{length, take}
use lib.Seq.{take_all}
use Rattle.model.specs.Sheets.{HeadValue}
use Rattle.model.specs.Values.{head_value_of}
use Rattle.model.specs.declared.Head.{Head}

-- the value of a head by other counts
abbrev pub clamped_head : Head → ℕ → ℕ → ℕ → HeadValue
clamped_head h segs rows warm =
    record { kind = h.kind; a = h.a; sizes = take segs h.sizes; rows = take rows h.prices; warm = take warm h.holds }

-- the first n elements are the first of n and the length
pub take_min : {A : Type 0} (xs : List A) (n m most : ℕ) → length xs ≡ most → m ≡ min n most → take m xs ≡ take n xs
take_min xs n m most l e =
    cases (leb n most) (λ h. rw (e, min-eq_left (leb-true n most h)))
    (λ h. let f = leb-false n most h in take_all m xs (omega arith) ∙ sym (take_all n xs (omega arith)))

-- so a head's value is the same with each count cut off at the length of its array
pub head-clamped : (h : Head) (segs rows warm : ℕ)
    → length h.sizes ≡ 256 → length h.prices ≡ 64 → length h.holds ≡ 256
    → segs ≡ min h.segs 256 → rows ≡ min h.rows 64 → warm ≡ min h.warm 256
    → clamped_head h segs rows warm ≡ head_value_of h
unfolding head_value_of
head-clamped h segs rows warm i j k d e f =
    rw (
      take_min h.sizes h.segs segs 256 i d,
      take_min h.prices h.rows rows 64 j e,
      take_min h.holds h.warm warm 256 k f,
    )
