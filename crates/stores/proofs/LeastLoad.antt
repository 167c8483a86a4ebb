-- No permitted schedule with the total modtotal has a smaller load, stores counted, than the one written: at the prices M × h + 1 and M ×
-- d, M large, the same schedule is written, and there its total is the least.
use Prim.Native.Nat.{ℕ, zero, suc, ◌+◌, ◌-◌, ◌*◌, ◌≤◌, ◌<◌}
use mathlib.Core.Path.{◌≡◌, refl, sym, ◌∙◌}
use mathlib.Core.Bool.{Bool, true, false, cond}
use mathlib.Core.List.{List}
use mathlib.Core.Option.{Option, none, some}
use native.Mathlib.Omega.{arith}
use native.Mathlib.Nat.{mul-le-mul_left}
use lib.Dec.{leb}
use borrow.Author.Tests.{leb-true, leb-false, le-leb, lt-leb}
use Rattle.model.specs.Costs.{keeps}
use Rattle.model.specs.Sums.{sum}
use Rattle.model.specs.Traces.{Trace, segs, steps, entry, touched, swap_of}
use Rattle.model.specs.Figures.{retention_of, kept}
use Rattle.model.specs.Schedules.{Permitted, next_kept}
use Rattle.model.proofs.Bounds.{product-within}
use Rattle.model.proofs.Sums.{term-le}
use Rattle.model.proofs.Decisions.{held_bytes-eq, next_decided-eq}
use Rattle.model.proofs.Optimal.{next-kept}
use Rattle.model.proofs.LeastLoad.{kept-scaled}
use Rattle.stores.specs.Modtotal.{excess, plus, since_mark, since_through, modtotal, joins, joins_before, next_marked}
use Rattle.stores.specs.Modtotal.{mod_held, mod_schedule}
use Rattle.stores.specs.Stays.{marked_load, marked_total}
use Rattle.stores.proofs.LowerBound.{marked-lower-bound}
use Rattle.stores.proofs.Nexts.{next_marked-eq}
use Rattle.stores.proofs.Reached.{mod-total}

-- x is a sum of n excesses, x' the same at the prices M × h + 1 and M × d: M × x, less at most n × w
pub record Scaled (M w n x x' : ℕ) : Type 0 where
  pub above : x' ≤ M * x
  pub below : M * x ≤ x' + n * w

scaled-excess : (M h d r w : ℕ) → w < M → Scaled M w 1 (d * r - h * w) (M * d * r - (M * h + 1) * w)
scaled-excess M h d r w lt = go (leb (d * r) (h * w)) refl
  where
    larger : (x : ℕ) → x + h * w ≡ d * r → 1 ≤ x → Scaled M w 1 x (M * d * r - (M * h + 1) * w)
    larger x e one =
        let whole : M * (x + h * w) ≡ M * (d * r) = rw e in
        record { above = omega (arith, mul-le-mul_left M one); below = omega (arith, mul-le-mul_left M one) }

    go : (b : Bool) → leb (d * r) (h * w) ≡ b → Scaled M w 1 (d * r - h * w) (M * d * r - (M * h + 1) * w)
    go true e =
        let le = leb-true (d * r) (h * w) e in
        let none : d * r - h * w ≡ 0 = omega arith in
        let none' : M * d * r - (M * h + 1) * w ≡ 0 = omega (arith, mul-le-mul_left M le) in
        rw (none, none') (record { above = omega arith; below = omega arith })
    go false e =
        let gt = leb-false (d * r) (h * w) e in
        larger (d * r - h * w) (omega arith) (omega arith)

-- the same of what is none or a number
abbrev pub Close : ℕ → ℕ → ℕ → Option ℕ → Option ℕ → Type 0
Close M w n none none = w ≡ w
Close M w n none (some x') = ⊥
Close M w n (some x) none = ⊥
Close M w n (some x) (some x') = Scaled M w n x x'

close_more : (M w n : ℕ) (e e' : Option ℕ) → Close M w n e e' → Close M w (suc n) e e'
close_more M w n none none c = refl
close_more M w n none (some x') c = c
close_more M w n (some x) none c = c
close_more M w n (some x) (some x') c = record { above = c.above; below = omega (arith, c.below) }

close-plus : (M w n x x' : ℕ) (e e' : Option ℕ) → Close M w n e e' → Scaled M w 1 x x' → Close M w (suc n) (plus e x) (plus e' x')
close-plus M w n x x' none none c s = refl
close-plus M w n x x' none (some y') c s = c
close-plus M w n x x' (some y) none c s = c
close-plus M w n x x' (some y) (some y') c s =
    record { above = omega (arith, c.above, s.above); below = omega (arith, c.below, s.below) }

-- where M is above (n + 1) × w, both join or neither
close-joins : (M h w n : ℕ) (e e' : Option ℕ) → Close M w n e e' → (n + 1) * w < M → joins ((M * h + 1) * w) e' ≡ joins (h * w) e
close-joins M h w n none none c big = refl
close-joins M h w n none (some y') c big = absurd c
close-joins M h w n (some y) none c big = absurd c
close-joins M h w n (some y) (some y') c big = go (leb y (h * w)) refl
  where
    go : (b : Bool) → leb y (h * w) ≡ b → keeps y' ((M * h + 1) * w) ≡ keeps y (h * w)
    go true e =
        rw e (le-leb y' ((M * h + 1) * w) (omega (arith, c.above, mul-le-mul_left M (leb-true y (h * w) e))))
    go false e =
        rw e (lt-leb y' ((M * h + 1) * w) (omega (arith, c.below, mul-le-mul_left M (leb-false y (h * w) e))))

module _ (T : Trace) (marks : ℕ → Bool) (h d M : ℕ) (big : (i : ℕ) → i < segs T → (steps T + 2) * swap_of T i < M) where
  -- the decisions are the same
  pub kept_same : (t i : ℕ) → i < segs T → kept T (M * h + 1) (M * d) t i ≡ kept T h d t i
  kept_same t i lt = kept-scaled T M h d t i (omega (arith, big i lt))

  excess-scaled : (t i : ℕ) → i < segs T → Scaled M (swap_of T i) 1 (excess T h d t i) (excess T (M * h + 1) (M * d) t i)
  excess-scaled t i lt = scaled-excess M h d (retention_of T t i) (swap_of T i) (omega (arith, big i lt))

  since-scaled : (t i : ℕ) → i < segs T → Close M (swap_of T i) t (since_mark T marks h d t i) (since_mark T marks (M * h + 1) (M * d) t i)
  unfolding since_mark
  since-scaled zero i lt = refl
  since-scaled (suc t) i lt = go (touched T t i) (marks t) (since-scaled t i lt)
    where
      e : Option ℕ
      e = since_mark T marks h d t i

      e' : Option ℕ
      e' = since_mark T marks (M * h + 1) (M * d) t i

      x : ℕ
      x = excess T h d t i

      x' : ℕ
      x' = excess T (M * h + 1) (M * d) t i

      go : (m g : Bool) → Close M (swap_of T i) t e e'
          → Close M (swap_of T i) (suc t) (cond m (cond g (some 0) (plus e x)) e) (cond m (cond g (some 0) (plus e' x')) e')
      go true true c = record { above = omega arith; below = omega arith }
      go true false c = close-plus M (swap_of T i) t x x' e e' c (excess-scaled t i lt)
      go false g c = close_more M (swap_of T i) t e e' c

  pub through-scaled : (t i : ℕ) → i < segs T
      → Close M (swap_of T i) (suc t) (since_through T marks h d t i) (since_through T marks (M * h + 1) (M * d) t i)
  through-scaled t i l =
      close-plus M (swap_of T i) t (excess T h d t i) (excess T (M * h + 1) (M * d) t i) (since_mark T marks h d t i)
      (since_mark T marks (M * h + 1) (M * d) t i) (since-scaled t i l) (excess-scaled t i l)

  pub joined_same : (t i : ℕ) → t < steps T → i < segs T → joins_before T marks (M * h + 1) (M * d) t i ≡ joins_before T marks h d t i
  unfolding joins_before
  joined_same t i lt l =
      close-joins M h (swap_of T i) (suc t) (since_through T marks h d t i) (since_through T marks (M * h + 1) (M * d) t i)
      (through-scaled t i l) (omega (arith, big i l, few))
    where
      few : (suc t + 1) * swap_of T i ≤ (steps T + 2) * swap_of T i
      few = product-within (suc t + 1) (swap_of T i) (steps T + 2) (swap_of T i) (omega arith) (omega arith)

  -- so what is held is
  pub mod_held-same : (t i : ℕ) → t < steps T → mod_held T marks (M * h + 1) (M * d) t i ≡ mod_held T marks h d t i
  unfolding mod_held
  mod_held-same t i lt = rw (next-same, marked-same)
    where
      k : ℕ
      k = steps T - suc t

      next-same : next_kept T (M * h + 1) (M * d) k (suc t) i ≡ next_kept T h d k (suc t) i
      next-same =
          sym (next-kept T (M * h + 1) (M * d) k (suc t) i)
          ∙ next_decided-eq T (kept T (M * h + 1) (M * d)) (kept T h d) (λ t lt l. kept_same t (entry T t) l) k (suc t) i (omega arith)
          ∙ next-kept T h d k (suc t) i

      marked-same : next_marked T marks (joins_before T marks (M * h + 1) (M * d)) k (suc t) i
          ≡ next_marked T marks (joins_before T marks h d) k (suc t) i
      marked-same =
          next_marked-eq T marks (joins_before T marks (M * h + 1) (M * d)) (joins_before T marks h d)
          (λ t lt l. joined_same t (entry T t) lt l)
          k (suc t) i (omega arith)

  -- and the schedule
  pub schedule-same : mod_schedule T marks (M * h + 1) (M * d) ≡ mod_schedule T marks h d
  unfolding mod_schedule
  schedule-same = held_bytes-eq (steps T) (mod_held T marks (M * h + 1) (M * d)) (mod_held T marks h d) mod_held-same

  -- no permitted schedule with a total of at most modtotal has a smaller load
  least-load-at : (p : List ℕ) → Permitted T p → segs T ≤ 256 → marked_total T marks h d p ≤ modtotal T marks h d
      → marked_load T marks (mod_schedule T marks h d) ≤ marked_load T marks p
  unfolding marked_total
  least-load-at p ok few within =
      let there = rw schedule-same at (mod-total T marks (M * h + 1) (M * d) few) in
      omega (arith, marked-lower-bound T marks (M * h + 1) (M * d) p ok few, there, mul-le-mul_left M within, here)
    where
      here : M * marked_total T marks h d (mod_schedule T marks h d) ≡ M * modtotal T marks h d
      here = rw (mod-total T marks h d few)

-- M, above (steps + 2) × w of every segment
abbrev pub scale : Trace → ℕ
scale T = suc ((steps T + 2) * sum (segs T) (swap_of T))

pub scale-big : (T : Trace) (i : ℕ) → i < segs T → (steps T + 2) * swap_of T i < scale T
scale-big T i lt = omega (arith, mul-le-mul_left (steps T + 2) (term-le (segs T) i (swap_of T) lt))

pub least-load : (T : Trace) (marks : ℕ → Bool) (h d : ℕ) (p : List ℕ) → Permitted T p → segs T ≤ 256
    → marked_total T marks h d p ≤ modtotal T marks h d → marked_load T marks (mod_schedule T marks h d) ≤ marked_load T marks p
least-load T marks h d = least-load-at T marks h d (scale T) (scale-big T)
