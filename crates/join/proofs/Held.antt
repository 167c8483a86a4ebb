-- The joint sheet as it is held: the parts that were worked out are those of the definition.
use Prim.Native.Nat.{ℕ, ◌+◌, ◌≤◌, max}
use mathlib.Core.Path.{◌≡◌, refl, sym, ap, ◌∙◌}
use mathlib.Core.Logic.{inl, inr, ⊎_elim}
use mathlib.Core.List.{List}
use native.Mathlib.Omega.{arith}
use borrow.Author.Tests.{leb-true}
use lib.ListN.{length, get_or, take}
use Rattle.model.specs.Sheets.{idle, most_segs, most_steps}
use Rattle.model.specs.Standing.{Standing}
use Rattle.model.specs.Values.{idles, blank_marks, padded, head_of, head_value_of, sheet_of, value_of}
use Rattle.model.specs.declared.Head.{Head}
use Rattle.model.specs.declared.Sheet.{Sheet}
use Rattle.model.proofs.Standing.{segs-counted, warm-counted, steps-counted}
use Rattle.model.proofs.Warm.{warm-few}
use Rattle.joint.specs.Joint.{joint_steps, joint_refs, joint_head, joined, Joins}
use Rattle.join.specs.inner.Entries.{IsEntry, entries_of}
use Rattle.join.specs.inner.Heads.{Movable, HeadsFit}
use Rattle.join.specs.inner.Parts.{joint_sheet_of}
use Rattle.joint.proofs.Entries.{entry_within, joint-length}

-- sheets by their parts
sheet-parts : (head head' : Head) (steps steps' : ℕ) (touches touches' : List ℕ) → head ≡ head' → steps ≡ steps' → touches ≡ touches'
    → ◌≡◌ {A = Sheet}
    (record { form = 3; head = head; steps = steps; touches = touches; marked = 0; marks = blank_marks most_steps })
    (record { form = 3; head = head'; steps = steps'; touches = touches'; marked = 0; marks = blank_marks most_steps })
sheet-parts head head' steps steps' touches touches' e f g = rw (e, f, g)

-- the sheet by the head, steps and entries that were worked out
pub sheet-made : (p q : Head) (xs ys : List ℕ) (head : Head) (steps : ℕ) (touches : List ℕ)
    → head ≡ head_of (joint_head (head_value_of p) (head_value_of q)) → steps ≡ max (length xs) (length ys)
    → touches ≡ padded (entries_of p.segs xs ys steps) (idles most_steps)
    → ◌≡◌ {A = Sheet}
    (record { form = 3; head = head; steps = steps; touches = touches; marked = 0; marks = blank_marks most_steps })
    (joint_sheet_of p q xs ys)
unfolding joint_sheet_of
sheet-made p q xs ys head steps touches e f g =
    sheet-parts head _ steps _ touches _ e f (g ∙ ap (λ n. padded (entries_of p.segs xs ys n) (idles most_steps)) f)

module _ (first second : Sheet) (p : Standing first) (q : Standing second) where
  -- the steps of the joint sheet, by the counts
  pub steps-joint : joint_steps (value_of first) (value_of second) ≡ max first.steps second.steps
  steps-joint = rw (steps-counted first p, steps-counted second q)

  -- the entries of the joint sheet, by the counts
  entries-joint : (steps : ℕ) → steps ≡ max first.steps second.steps
      → entries_of first.head.segs (take first.steps first.touches) (take second.steps second.touches) steps
      ≡ joint_refs (value_of first) (value_of second)
  unfolding joint_refs value_of
  entries-joint steps e =
      ap (λ n. entries_of n (value_of first).entries (value_of second).entries steps) (sym (segs-counted first p))
      ∙ ap (λ k. entries_of (length (value_of first).head.sizes) (value_of first).entries (value_of second).entries k) (e ∙ sym steps-joint)

  -- as many entries as the counts say
  steps-held : max (length (take first.steps first.touches)) (length (take second.steps second.touches))
      ≡ max first.steps second.steps
  unfolding value_of
  steps-held = steps-joint

  -- the sheet by the heads and the entries
  pub sheet-held : joint_sheet_of first.head second.head (take first.steps first.touches) (take second.steps second.touches)
      ≡ sheet_of (joined (value_of first) (value_of second))
  unfolding joint_sheet_of sheet_of joined value_of padded
  sheet-held =
      let f = steps-held in
      sheet-parts _ _ _ _ _ _ refl (f ∙ sym steps-joint ∙ sym (joint-length (value_of first) (value_of second)))
      (ap (λ refs. padded refs (idles most_steps)) (entries-joint _ f))

  -- the second's entries are below 256 or idle
  pub entries-within : (t : ℕ) → IsEntry (get_or (take second.steps second.touches) t idle)
  unfolding value_of
  entries-within t =
      ⊎_elim (λ lt. inl (omega (arith, q.valid.run.segs_within))) (λ e. inr e) (entry_within (value_of second) q.valid t)

  -- where the two join, their heads fit
  module _ (joins : Joins (value_of first) (value_of second)) where
    segs-few : first.head.segs + second.head.segs ≤ most_segs
    segs-few =
        omega (
          arith,
          leb-true (length (value_of first).head.sizes + length (value_of second).head.sizes) most_segs joins.few,
          segs-counted first p,
          segs-counted second q,
        )

    warm_fits : first.head.warm + second.head.warm ≤ most_segs
    warm_fits =
        omega (
          arith,
          segs-few,
          segs-counted first p,
          segs-counted second q,
          warm-counted first p,
          warm-counted second q,
          warm-few (length (value_of first).head.sizes) (value_of first).head.warm p.valid.warm,
          warm-few (length (value_of second).head.sizes) (value_of second).head.warm q.valid.warm,
        )

    sizes-movable : Movable (value_of first).head.sizes 0 (value_of second).head.sizes
    sizes-movable =
        record {
          few = omega (arith, segs-few, segs-counted first p, segs-counted second q);
          fits = λ k lt. omega (arith, q.valid.run.size_within k lt);
        }

    holds-movable : Movable (value_of first).head.warm first.head.segs (value_of second).head.warm
    holds-movable =
        record {
          few = omega (arith, warm_fits, warm-counted first p, warm-counted second q);
          fits = λ k lt. omega (arith, q.valid.warm.below k lt, segs-few, segs-counted second q);
        }

    pub heads-fit : HeadsFit first.head second.head
    unfolding value_of head_value_of
    heads-fit =
        record {
          rows = p.rows_within;
          prices = p.prices_whole;
          segs = segs-few;
          warm = warm_fits;
          sizes = sizes-movable;
          holds = holds-movable;
        }
