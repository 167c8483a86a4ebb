-- The head of the joint sheet as it is held: the parts that were worked out are those of the definition.
use Prim.Native.Nat.{ℕ, ◌+◌, ◌≤◌}
use mathlib.Core.Path.{◌≡◌, refl, sym, ap, ◌∙◌}
use mathlib.Core.List.{List, [], ◌∷◌, ◌++◌}
use native.Mathlib.Omega.{arith}
use native.Mathlib.Nat.{zero-add}
use lib.ListN.{length, take, length-append}
use lib.Seq.{length-take-le}
use Rattle.model.specs.Sheets.{most_segs, most_rows}
use Rattle.model.specs.Values.{zeros, zero_rows, padded, head_of, head_value_of}
use Rattle.model.specs.declared.Kind.{Kind}
use Rattle.model.specs.declared.PriceRow.{PriceRow}
use Rattle.model.specs.declared.Head.{Head}
use Rattle.joint.specs.Joint.{joint_head}
use Rattle.joint.specs.inner.Moved.{moved, moved_after}
use Rattle.joint.proofs.Lists.{numbers-length}

-- numbers moved by 0
moved_none : (ys : List ℕ) → moved 0 ys ≡ ys
moved_none [] = refl
moved_none (y ∷ ys) = rw (zero-add y, moved_none ys)

-- heads by their parts
module _ (kind : Kind) (a segs segs' rows rows' warm warm' : ℕ) (sizes sizes' holds holds' : List ℕ) (prices prices' : List PriceRow) where
  head-parts : segs ≡ segs' → rows ≡ rows' → warm ≡ warm' → sizes ≡ sizes' → holds ≡ holds' → prices ≡ prices'
      → ◌≡◌ {A = Head}
      (record { kind = kind; a = a; segs = segs; sizes = sizes; rows = rows; prices = prices; warm = warm; holds = holds })
      (record { kind = kind; a = a; segs = segs'; sizes = sizes'; rows = rows'; prices = prices'; warm = warm'; holds = holds' })
  head-parts e f g h i j = rw (e, f, g, h, i, j)

module _ (p q : Head) (segs-in : p.segs ≤ length p.sizes) (more-segs-in : q.segs ≤ length q.sizes)
    (warm-in : p.warm ≤ length p.holds)
    (more-warm-in : q.warm ≤ length q.holds) (rows_in : p.rows ≤ length p.prices) where
  -- the head of the joint sheet, by the sizes, warm segments and rows that were put together
  pub joint-held : (sizes holds : List ℕ) (prices : List PriceRow)
      → sizes ≡ padded (moved_after (take p.segs p.sizes) 0 (take q.segs q.sizes)) (zeros most_segs)
      → holds ≡ padded (moved_after (take p.warm p.holds) p.segs (take q.warm q.holds)) (zeros most_segs)
      → prices ≡ padded (take p.rows p.prices) (zero_rows most_rows)
      → ◌≡◌ {A = Head}
      (record {
        kind = p.kind;
        a = p.a;
        segs = p.segs + q.segs;
        sizes = sizes;
        rows = p.rows;
        prices = prices;
        warm = p.warm + q.warm;
        holds = holds;
      })
      (head_of (joint_head (head_value_of p) (head_value_of q)))
  unfolding head_of joint_head head_value_of
  joint-held sizes holds prices e f g =
      let n = length-take-le p.segs p.sizes segs-in in
      let m = length-take-le q.segs q.sizes more-segs-in in
      let k = length-take-le p.warm p.holds warm-in in
      let l = length-take-le q.warm q.holds more-warm-in in
      head-parts p.kind p.a _ _ _ _ _ _ _ _ _ _ _ _
      (omega (arith, length-append (take p.segs p.sizes) (take q.segs q.sizes), n, m))
      (sym (length-take-le p.rows p.prices rows_in))
      (omega (arith, numbers-length (take p.warm p.holds) (length (take p.segs p.sizes)) (take q.warm q.holds), k, l))
      (e ∙ ap (λ ys. padded (take p.segs p.sizes ++ ys) (zeros most_segs)) (moved_none (take q.segs q.sizes)))
      (f ∙ ap (λ k. padded (moved_after (take p.warm p.holds) k (take q.warm q.holds)) (zeros most_segs)) (sym n))
      g
