-- `same_heads` meets its contract: kind, a and rows, one after the other.
use mathlib.Core.Path.{◌≡◌, ◌∙◌}
use mathlib.Core.Bool.{true, false}
use borrow.Author.Tests.{eqb-true, eqb-false}
use lib.Dec.{eqb}
use Rattle.join.proofs.Heads.{kinds-alike, rows-alike, heads-kind, heads-a, heads-rows}
use Rattle.join.proofs.joint_heads.same_heads.Goals.{then-eq, else-eq}
use Rattle.join.proofs.joint_heads.same_heads.Goals as goal

pub returns-then-p-q : goal.returns-then-p-q
returns-then-p-q c =
    let p = c.args.p.now in
    let q = c.args.q.now in
    let told = c.eq.ensures ∙ kinds-alike p.kind q.kind in
    elim c.if-eq.branch [
      | then-eq w ↦
          let e : eqb p.a q.a ≡ true = cc in
          heads-rows p q _ told w.if-eq.true (eqb-true p.a q.a e) _ (c.eq-then-p-q.ensures ∙ rows-alike _ _)
      | else-eq w ↦ cc
    ]

pub returns-else-p-q : goal.returns-else-p-q
returns-else-p-q c =
    let p = c.args.p.now in
    let q = c.args.q.now in
    let told = c.eq.ensures ∙ kinds-alike p.kind q.kind in
    elim c.if-eq.branch [
      | then-eq w ↦
          let e : eqb p.a q.a ≡ false = cc in
          let differ = heads-a p q _ told w.if-eq.true (eqb-false p.a q.a e) in
          cc
      | else-eq w ↦ let differ = heads-kind p q _ told w.if-eq.false in cc
    ]
