-- A run U in which two runs T and S stand, the segments of S after those of T: sums over touches and end intervals split in two.
use Prim.Native.Nat.{ℕ, zero, suc, ◌+◌, ◌-◌, ◌*◌, ◌≤◌, max, min}
use mathlib.Core.Path.{◌≡◌, refl, sym, ap, ◌∙◌}
use mathlib.Core.Bool.{Bool, false, cond}
use mathlib.Core.Option.{Option}
use native.Mathlib.Omega.{arith}
use native.Mathlib.Nat.{mul-le-mul_left}
use Rattle.model.specs.Costs.{swap_cost, unit_cost, retention, keeps}
use Rattle.model.specs.Figures.{ref_cost, ref_volume, of_time, is_reuse, kept, misses, volume, load, optmem, opttotal, optocc}
use Rattle.model.specs.Figures.{smaller, wsmem, wsspace, wsocc}
use Rattle.model.specs.Sums.{sum}
use Rattle.model.specs.Traces.{Trace, segs, steps, size_of, touched, over_touches, over_segments}
use Rattle.model.specs.declared.Kind.{Kind}
use Rattle.model.specs.declared.Kind.TheVariants.{Time, Space}
use Rattle.model.proofs.Sums.{sum-eq, sum-le, sum-add}
use Rattle.model.proofs.DoubleSums.{over_touches-double}
use Rattle.joint.proofs.Beyond.{smaller-beyond}
use Rattle.joint.proofs.Embedded.{Embedded, Local, local_of, same-local, same-touches}

-- U is T and S side by side
pub record Halves (U T S : Trace) : Type 0 where
  pub first : Embedded U T 0
  pub second : Embedded U S (segs T)
  pub segs_add : segs U ≡ segs T + segs S
  pub steps_max : steps U ≡ max (steps T) (steps S)

-- a sum in two parts
sum-parts : (m n : ℕ) (f : ℕ → ℕ) → sum (m + n) f ≡ sum m (λ i. f (0 + i)) + sum n (λ i. f (m + i))
unfolding sum
sum-parts m zero f =
    let e : m + 0 ≡ m = omega arith in
    rw e (omega (arith, sum-eq m f (λ i. f (0 + i)) (λ i lt. ap f (omega arith))))
sum-parts m (suc n) f =
    let e : m + suc n ≡ suc (m + n) = omega arith in
    rw e (omega (arith, sum-parts m n f))

-- whether a reuse is kept, the smaller of d × R and h × w, and that times the size
abbrev kept_by : ℕ → ℕ → Kind → ℕ → ℕ → Option ℕ → Bool
kept_by h d kind a z o = cond (is_reuse o) (keeps (d * of_time (retention kind z) o) (h * swap_cost a z)) false

abbrev smaller_by : ℕ → ℕ → Local
smaller_by h d kind a z o = cond (is_reuse o) (min (d * of_time (retention kind z) o) (h * swap_cost a z)) 0

module _ (U T S : Trace) (two : Halves U T S) where
  -- a sum over touches is that of T and that of S
  touches-add : (g : Local) → over_touches U (local_of g U) ≡ over_touches T (local_of g T) + over_touches S (local_of g S)
  touches-add g =
      over_touches-double U (local_of g U)
      ∙ ap (λ n. sum (steps U) (λ t. sum n (adds t))) two.segs_add
      ∙ sum-eq (steps U) (λ t. sum (segs T + segs S) (adds t)) (λ t. part 0 (segs T) t + part (segs T) (segs S) t)
      (λ t lt. sum-parts (segs T) (segs S) (adds t))
      ∙ sum-add (steps U) (part 0 (segs T)) (part (segs T) (segs S))
      ∙ ap (λ x. x + sum (steps U) (part (segs T) (segs S))) (same-touches U T 0 two.first g)
      ∙ ap (λ x. over_touches T (local_of g T) + x) (same-touches U S (segs T) two.second g)
    where
      adds : ℕ → ℕ → ℕ
      adds t i = cond (touched U t i) (local_of g U t i) 0

      part : ℕ → ℕ → ℕ → ℕ
      part k n t = sum n (λ i. adds t (k + i))

  -- so is a sum over the segments at the end, each half at the end of U
  ends-add : (g : Local)
      → over_segments U (local_of g U (steps U)) ≡ over_segments T (local_of g T (steps U)) + over_segments S (local_of g S (steps U))
  ends-add g =
      ap (λ n. sum n (local_of g U (steps U))) two.segs_add
      ∙ sum-parts (segs T) (segs S) (local_of g U (steps U))
      ∙ ap (λ x. x + sum (segs S) (λ i. local_of g U (steps U) (segs T + i)))
      (sum-eq (segs T) (λ i. local_of g U (steps U) (0 + i)) (local_of g T (steps U))
      (λ i lt. same-local U T 0 two.first g (steps U) i lt))
      ∙ ap (λ x. over_segments T (local_of g T (steps U)) + x)
      (sum-eq (segs S) (λ i. local_of g U (steps U) (segs T + i)) (local_of g S (steps U))
      (λ i lt. same-local U S (segs T) two.second g (steps U) i lt))

  -- an end interval of U is no less than its half's, and the same where T and S have as many steps
  module _ (g : Local) where
    ends-least : ((H : Trace) (k i : ℕ) → local_of g H (steps H) i ≤ local_of g H (steps H + k) i)
        → over_segments T (local_of g T (steps T)) + over_segments S (local_of g S (steps S)) ≤ over_segments U (local_of g U (steps U))
    ends-least grows =
        omega (arith, ends-add g, half T (omega (arith, two.steps_max)), half S (omega (arith, two.steps_max)))
      where
        half : (H : Trace) → steps H ≤ steps U → over_segments H (local_of g H (steps H)) ≤ over_segments H (local_of g H (steps U))
        half H le =
            let e : steps H + (steps U - steps H) ≡ steps U = omega arith in
            sum-le (segs H) (local_of g H (steps H)) (local_of g H (steps U)) (λ i lt. rw e at (grows H (steps U - steps H) i))

    ends_same : steps T ≡ steps S
        → over_segments U (local_of g U (steps U)) ≡ over_segments T (local_of g T (steps T)) + over_segments S (local_of g S (steps S))
    ends_same same =
        let first : steps U ≡ steps T = omega (arith, two.steps_max) in
        let second : steps U ≡ steps S = omega (arith, two.steps_max) in
        ends-add g
        ∙ ap (λ n. over_segments T (local_of g T n) + over_segments S (local_of g S (steps U))) first
        ∙ ap (λ n. over_segments T (local_of g T (steps T)) + over_segments S (local_of g S n)) second

  -- Q and V
  cost-add : ref_cost U ≡ ref_cost T + ref_cost S
  unfolding ref_cost
  cost-add = touches-add (λ kind a z o. unit_cost kind z)

  sizes-add : ref_volume U ≡ ref_volume T + ref_volume S
  unfolding ref_volume
  sizes-add = touches-add (λ kind a z o. z)

  module _ (h d : ℕ) where
    pub misses_add : misses U h d ≡ misses T h d + misses S h d
    unfolding misses kept
    misses_add = touches-add (λ kind a z o. cond (kept_by h d kind a z o) 0 1)

    pub volume_add : volume U h d ≡ volume T h d + volume S h d
    unfolding volume kept
    volume_add = touches-add (λ kind a z o. cond (kept_by h d kind a z o) 0 z)

    pub load_add : load U h d ≡ load T h d + load S h d
    unfolding load
    load_add = rw (misses_add, volume_add) (go U.a T.a S.a two.first.same_a two.second.same_a)
      where
        go : (a b c : ℕ) → a ≡ b → a ≡ c → (misses T h d + misses S h d) + a * (volume T h d + volume S h d)
            ≡ (misses T h d + b * volume T h d) + (misses S h d + c * volume S h d)
        go a b c e f = rw (← e, ← f) (omega arith)

    pub optmem_add : optmem U h d ≡ optmem T h d + optmem S h d
    unfolding optmem kept
    optmem_add =
        omega (arith, cost-add, touches-add (λ kind a z o. cond (kept_by h d kind a z o) (of_time (retention kind z) o) 0))

    pub optocc_add : optocc U h d ≡ optocc T h d + optocc S h d
    unfolding optocc kept
    optocc_add = omega (arith, sizes-add, touches-add (λ kind a z o. cond (kept_by h d kind a z o) (of_time (λ k. k * z) o) 0))

    pub opttotal_add : opttotal U h d ≡ opttotal T h d + opttotal S h d
    unfolding opttotal
    opttotal_add = rw (optmem_add, load_add) (omega arith)

    -- the working set's end intervals grow
    smaller-grows : (H : Trace) (k i : ℕ) → local_of (smaller_by h d) H (steps H) i ≤ local_of (smaller_by h d) H (steps H + k) i
    unfolding smaller
    smaller-grows H k i = smaller-beyond H h d k i

    abbrev sized_by : Local
    sized_by kind a z o = z * smaller_by h d kind a z o

    sized-grows : (H : Trace) (k i : ℕ) → local_of sized_by H (steps H) i ≤ local_of sized_by H (steps H + k) i
    sized-grows H k i = mul-le-mul_left (size_of H i) (smaller-grows H k i)

    pub wsmem_least : wsmem T h d + wsmem S h d ≤ wsmem U h d
    unfolding wsmem smaller
    wsmem_least = rw cost-add (omega (arith, touches-add (smaller_by h d), ends-least (smaller_by h d) smaller-grows))

    pub wsmem_add : steps T ≡ steps S → wsmem U h d ≡ wsmem T h d + wsmem S h d
    unfolding wsmem smaller
    wsmem_add same = rw cost-add (omega (arith, touches-add (smaller_by h d), ends_same (smaller_by h d) same))

    wsspace-least : wsspace T h d + wsspace S h d ≤ wsspace U h d
    unfolding wsspace smaller
    wsspace-least = rw sizes-add (omega (arith, touches-add sized_by, ends-least sized_by sized-grows))

    wsspace-add : steps T ≡ steps S → wsspace U h d ≡ wsspace T h d + wsspace S h d
    unfolding wsspace smaller
    wsspace-add same = rw sizes-add (omega (arith, touches-add sized_by, ends_same sized_by same))

    -- wsocc by the kind of U
    abbrev occ : Kind → Trace → ℕ
    occ Time H = wsspace H h d
    occ Space H = wsmem H h d

    occ-is : (H : Trace) (kind : Kind) → H.kind ≡ kind → wsocc H h d ≡ occ kind H
    unfolding wsocc
    occ-is H kind e = go H.kind ∙ ap (λ k. occ k H) e
      where
        go : (k : Kind) → elim k [ Time ↦ wsspace H h d | Space ↦ wsmem H h d ] ≡ occ k H
        go Time = refl
        go Space = refl

    occ-first : wsocc T h d ≡ occ U.kind T
    occ-first = occ-is T U.kind (sym two.first.same_kind)

    occ-second : wsocc S h d ≡ occ U.kind S
    occ-second = occ-is S U.kind (sym two.second.same_kind)

    pub wsocc_least : wsocc T h d + wsocc S h d ≤ wsocc U h d
    wsocc_least = rw (occ-first, occ-second, occ-is U U.kind refl) (go U.kind)
      where
        go : (k : Kind) → occ k T + occ k S ≤ occ k U
        go Time = wsspace-least
        go Space = wsmem_least

    pub wsocc_add : steps T ≡ steps S → wsocc U h d ≡ wsocc T h d + wsocc S h d
    wsocc_add same = rw (occ-first, occ-second, occ-is U U.kind refl) (go U.kind)
      where
        go : (k : Kind) → occ k U ≡ occ k T + occ k S
        go Time = wsspace-add same
        go Space = wsmem_add same
