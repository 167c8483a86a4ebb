-- `lines` meets its contract. The loop's invariant: the table, the counts and the touches hold the lines passed. The measure is what is
-- left of the bytes.
use mathlib.Core.Path.{refl, ◌∙◌}
use Rattle.std.proofs.lemmas.List.{map-set}
use mathlib.Core.Logic.{⊎_elim}
use native.Mathlib.Omega.{arith}
use Rattle.model.specs.Values.{zeros, idles}
use Rattle.std.specs.Prelude.{None}
use Rattle.din.specs.inner.Held.{imported_of, page_at, mark_of}
use Rattle.din.proofs.Table.{map-same, number-marked}
use Rattle.din.proofs.Going.{going_start, going_end, going_malformed, going_many_segs, going_many_steps, going_next}
use Rattle.din.proofs.pages.lines.Goals as goal

pub loop-at-init : goal.loop-at-init
unfolding zeros idles
loop-at-init c = going_start _ _ _ _ _ (map-same page_at 512 None) (map-same mark_of 512 None) refl

pub returns-in_default : goal.returns-in_default
unfolding imported_of
returns-in_default c = going_malformed _ _ _ _ _ _ _ _ c.loop-at.invariant c.in_default.ensures.result_value

pub returns-then-segment-eq-MAX_SEGS : goal.returns-then-segment-eq-MAX_SEGS
unfolding imported_of
returns-then-segment-eq-MAX_SEGS c =
    ⊎_elim
    (λ most.
    going_many_segs _ _ _ _ _ _ _ _ c.loop-at.invariant _ c.in-Some.line.next c.in-Some.ensures.result_value _ c.place_of-place.ensures
    _ (c.number_at-segment.ensures ∙ number-marked c.loop-at.table _ _) most)
    (λ room.
    going_many_steps _ _ _ _ _ _ _ _ c.loop-at.invariant _ c.in-Some.line.next c.in-Some.ensures.result_value _ c.place_of-place.ensures
    _ (c.number_at-segment.ensures ∙ number-marked c.loop-at.table _ _) room.1)
    c.then-segment-eq-MAX_SEGS.either

pub loop-at-preserved : goal.loop-at-preserved
loop-at-preserved c =
    simp map-set
    (going_next _ _ _ _ _ _ _ _ c.loop-at.invariant _ c.in-Some.line.next c.in-Some.ensures.result_value _ c.place_of-place.ensures
    _ (c.number_at-segment.ensures ∙ number-marked c.loop-at.table _ _) c.if-segment-eq-MAX_SEGS.false (λ e. omega arith) c.in-Some.ensures.next_within.1 _
    c.max-segs.ensures)

pub returns : goal.returns
returns c = going_end _ _ _ _ _ _ _ _ c.loop-at.invariant c.loop-at-test.false _ (omega (arith, c.max.ensures))
