-- The joint sheet of two valid sheets that join: it is valid, its figures are those of the two together, and its optimal schedule is the
-- two side by side.
use Prim.Native.Nat.{ℕ, ◌+◌, ◌-◌, ◌≤◌, ◌<◌, max}
use mathlib.Core.Path.{◌≡◌, refl, sym, ap, ◌∙◌}
use mathlib.Core.Logic.{◌⊎◌, ⊎_elim}
use mathlib.Core.Bool.{Bool, true, false, ◌&&◌, true≢false}
use mathlib.Core.List.{List, [], ◌∷◌, ◌++◌}
use native.Mathlib.Omega.{arith}
use native.Mathlib.Nat.{zero-add}
use lib.Dec.{eqb}
use lib.ListN.{length, get_or, length-append, get_or-append}
use lib.Seq.{get_or-append-add}
use borrow.Author.Tests.{eqb-true, leb-true}
use Rattle.model.specs.Sheets.{HeadValue, SheetValue, RunWithin, Valid, idle, largest_size, trace_of}
use Rattle.model.specs.Traces.{segs, steps, entry, touched}
use Rattle.model.specs.declared.Kind.{Kind}
use Rattle.model.specs.declared.Kind.TheVariants.{Time, Space}
use Rattle.model.specs.declared.PriceRow.{PriceRow}
use Rattle.model.proofs.Lists.{get_or-any}
use Rattle.joint.specs.Figures.{joint_run, JointFigures, SideBySide}
use Rattle.joint.specs.Joint.{same_kind, same_rows, same_heads, joint_entry, joint_refs, joint_head, joined, Joins}
use Rattle.joint.proofs.Embedded.{Embedded, same-held, held_none}
use Rattle.joint.proofs.Entries.{below-or-beyond, entry_of, entry_within, touched-by, first-touch, second-touch}
use Rattle.joint.proofs.Entries.{joint-within, joint-length, joint-entry, one-idle}
use Rattle.joint.proofs.Halves as halves
use Rattle.joint.proofs.Halves.{Halves}
use Rattle.joint.proofs.Lists.{first-listed, second-listed, warm-both}

-- both tests passed
both : (a b : Bool) → a && b ≡ true → (a ≡ true) × (b ≡ true)
both true b e = (refl, e)
both false b e = absurd (true≢false (sym e))

-- heads told to be the same have the same kind, a and rows
pub same_kind_lem : (p q : Kind) → same_kind p q ≡ true → p ≡ q
same_kind_lem Time Time e = refl
same_kind_lem Time Space e = absurd (true≢false (sym e))
same_kind_lem Space Time e = absurd (true≢false (sym e))
same_kind_lem Space Space e = refl

same_row_lem : (p q : PriceRow) → p.h ≡ q.h → p.d ≡ q.d → p ≡ q
same_row_lem p q e f =
    ap {B = PriceRow} (λ (h : ℕ). record { h = h; d = p.d }) e ∙ ap {B = PriceRow} (λ (d : ℕ). record { h = q.h; d = d }) f

pub same-rows : (ps qs : List PriceRow) → same_rows ps qs ≡ true → ps ≡ qs
unfolding same_rows
same-rows [] [] e = refl
same-rows [] (q ∷ qs) e = absurd (true≢false (sym e))
same-rows (p ∷ ps) [] e = absurd (true≢false (sym e))
same-rows (p ∷ ps) (q ∷ qs) e =
    let split = both (eqb p.h q.h && eqb p.d q.d) (same_rows ps qs) e in
    let prices = both (eqb p.h q.h) (eqb p.d q.d) split.0 in
    ap (λ (r : PriceRow). r ∷ ps) (same_row_lem p q (eqb-true p.h q.h prices.0) (eqb-true p.d q.d prices.1))
    ∙ ap (λ (rs : List PriceRow). q ∷ rs) (same-rows ps qs split.1)

-- what the same heads have in common
pub record SameHeads (p q : HeadValue) : Type 0 where
  pub kind : p.kind ≡ q.kind
  pub a : p.a ≡ q.a
  pub rows : p.rows ≡ q.rows

pub same-heads : (p q : HeadValue) → same_heads p q ≡ true → SameHeads p q
unfolding same_heads
same-heads p q e =
    let split = both (same_kind p.kind q.kind) _ e in
    let rest = both (eqb p.a q.a) (same_rows p.rows q.rows) split.1 in
    record {
      kind = same_kind_lem p.kind q.kind split.0;
      a = eqb-true p.a q.a rest.0;
      rows = same-rows p.rows q.rows rest.1;
    }

-- sizes one after the other
module _ (xs ys : List ℕ) where
  pub first-size : (i : ℕ) → i < length xs → get_or (xs ++ ys) i 0 ≡ get_or xs i 0
  first-size i lt = get_or-append xs ys 0 i lt

  pub second-size : (j : ℕ) → get_or (xs ++ ys) (length xs + j) 0 ≡ get_or ys j 0
  second-size j = get_or-append-add xs ys j 0

  -- what all have is what those of each have
  pub each-size : (P : ℕ → Type 0) → ((i : ℕ) → i < length xs → P (get_or xs i 0)) → ((j : ℕ) → j < length ys → P (get_or ys j 0))
      → (i : ℕ) → i < length (xs ++ ys) → P (get_or (xs ++ ys) i 0)
  each-size P first second i lt = ⊎_elim (λ l. rw (first-size i l) (first i l)) (λ le. upper le) (below-or-beyond i (length xs))
    where
      upper : length xs ≤ i → P (get_or (xs ++ ys) i 0)
      upper le =
          let e : length xs + (i - length xs) ≡ i = omega arith in
          rw (← e, second-size (i - length xs)) (second (i - length xs) (omega (arith, length-append xs ys)))

module _ (v w : SheetValue) (first : Valid v) (second : Valid w) (joins : Joins v w) where
  abbrev n : ℕ
  n = segs (trace_of v)

  abbrev m : ℕ
  m = segs (trace_of w)

  segs-joint : segs (joint_run v w) ≡ n + m
  unfolding joined joint_head
  segs-joint = length-append v.head.sizes w.head.sizes

  segs-few : n + m ≤ 256
  segs-few = leb-true (n + m) 256 joins.few

  steps-joint : steps (joint_run v w) ≡ max (steps (trace_of v)) (steps (trace_of w))
  unfolding joined
  steps-joint = joint-length v w

  run-within : RunWithin (joint_run v w)
  unfolding joined joint_head
  run-within =
      record {
        a_within = first.run.a_within;
        some_segs = omega (arith, segs-joint, first.run.some_segs);
        segs_within = omega (arith, segs-joint, segs-few);
        some_size = each-size v.head.sizes w.head.sizes (λ z. 1 ≤ z) first.run.some_size second.run.some_size;
        size_within =
            each-size v.head.sizes w.head.sizes (λ z. z ≤ largest_size) first.run.size_within second.run.size_within;
        steps_within = omega (arith, steps-joint, first.run.steps_within, second.run.steps_within);
        entry_within = entries;
      }
    where
      entries : (t : ℕ) → t < steps (joint_run v w) → (entry (joint_run v w) t < segs (joint_run v w)) ⊎ (entry (joint_run v w) t ≡ idle)
      entries t lt =
          let e : entry (joint_run v w) t ≡ joint_entry n (entry_of v t) (entry_of w t) =
          get_or-any (joint_refs v w) t (segs (joint_run v w)) idle lt ∙ joint-entry v w t
          in
          rw (e, segs-joint) (joint-within n (entry_of v t) (entry_of w t) m (entry_within v first t) (entry_within w second t))

  pub joined-valid : Valid (joined v w)
  unfolding joined joint_head
  joined-valid =
      record {
        some_form = omega arith;
        form_within = omega arith;
        rows = first.rows;
        run = run-within;
        whole = λ e t lt. absurd (omega arith);
        warm = rw segs-joint (warm-both n m v.head.warm w.head.warm first.warm second.warm);
        cold = λ le. absurd (omega arith);
        marked = λ late. absurd (omega arith);
        modifying = λ t e. absurd (true≢false (sym e));
        unmarked = λ early. refl;
      }

  entry-joint : (t : ℕ) → entry_of (joined v w) t ≡ joint_entry n (entry_of v t) (entry_of w t)
  unfolding joined
  entry-joint t = joint-entry v w t

  -- the touches of a segment of the joint run
  touched-joint : (t i : ℕ) → i < n + m → touched (joint_run v w) t i ≡ eqb (joint_entry n (entry_of v t) (entry_of w t)) i
  touched-joint t i lt = touched-by (joined v w) joined-valid t i (omega (arith, segs-joint)) ∙ ap (λ x. eqb x i) (entry-joint t)

  -- a segment of the first has those of the first, a segment of the second those of the second
  first-touched : (t i : ℕ) → i < n → touched (joint_run v w) t i ≡ touched (trace_of v) t i
  first-touched t i lt =
      touched-joint t i (omega arith)
      ∙ first-touch n (entry_of v t) (entry_of w t) i lt first.run.segs_within
      ∙ sym (touched-by v first t i lt)

  second-touched : (t j : ℕ) → j < m → touched (joint_run v w) t (n + j) ≡ touched (trace_of w) t j
  second-touched t j lt =
      touched-joint t (n + j) (omega arith)
      ∙ second-touch n (entry_of v t) (entry_of w t) j (omega (arith, segs-few)) (entry_within v first t) (one-idle v w joins.apart t)
      ∙ sym (touched-by w second t j lt)

  first-embedded : Embedded (joint_run v w) (trace_of v) 0
  unfolding joined joint_head
  first-embedded =
      record {
        same_kind = refl;
        same_a = refl;
        within = omega (arith, steps-joint);
        same_size = λ i lt. rw (zero-add i) (first-size v.head.sizes w.head.sizes i lt);
        same_start = λ i lt. rw (zero-add i) (first-listed n m v.head.warm w.head.warm first.warm second.warm i lt);
        same_touched = λ t i lt. rw (zero-add i) (first-touched t i lt);
      }

  second-embedded : Embedded (joint_run v w) (trace_of w) n
  unfolding joined joint_head
  second-embedded =
      record {
        same_kind = heads.kind;
        same_a = heads.a;
        within = omega (arith, steps-joint);
        same_size = λ j lt. second-size v.head.sizes w.head.sizes j;
        same_start = λ j lt. second-listed n m v.head.warm w.head.warm first.warm second.warm j;
        same_touched = second-touched;
      }
    where
      heads : SameHeads v.head w.head
      heads = same-heads v.head w.head joins.same

  -- the two stand in the joint run
  pub joint-halves : Halves (joint_run v w) (trace_of v) (trace_of w)
  joint-halves = record { first = first-embedded; second = second-embedded; segs_add = segs-joint; steps_max = steps-joint }

  module _ (h d : ℕ) where
    pub joint-figures : JointFigures v w h d
    joint-figures =
        record {
          misses_add = halves.misses_add (joint_run v w) (trace_of v) (trace_of w) joint-halves h d;
          volume_add = halves.volume_add (joint_run v w) (trace_of v) (trace_of w) joint-halves h d;
          load_add = halves.load_add (joint_run v w) (trace_of v) (trace_of w) joint-halves h d;
          optmem_add = halves.optmem_add (joint_run v w) (trace_of v) (trace_of w) joint-halves h d;
          opttotal_add = halves.opttotal_add (joint_run v w) (trace_of v) (trace_of w) joint-halves h d;
          optocc_add = halves.optocc_add (joint_run v w) (trace_of v) (trace_of w) joint-halves h d;
          wsmem_least = halves.wsmem_least (joint_run v w) (trace_of v) (trace_of w) joint-halves h d;
          wsocc_least = halves.wsocc_least (joint_run v w) (trace_of v) (trace_of w) joint-halves h d;
          wsmem_add = halves.wsmem_add (joint_run v w) (trace_of v) (trace_of w) joint-halves h d;
          wsocc_add = halves.wsocc_add (joint_run v w) (trace_of v) (trace_of w) joint-halves h d;
        }

    pub side_by_side : SideBySide v w h d
    side_by_side =
        record {
          first_held = λ t i lt l. rw (zero-add i) at (same-held (joint_run v w) (trace_of v) 0 first-embedded h d t i lt l);
          first_dropped = λ t i le l. rw (zero-add i) at (held_none (joint_run v w) (trace_of v) 0 first-embedded h d t i le l);
          second_held = same-held (joint_run v w) (trace_of w) n second-embedded h d;
          second_dropped = held_none (joint_run v w) (trace_of w) n second-embedded h d;
        }
