-- Runs that differ only in their references: what they have in common up to a place, and so what one more reference adds to Q and V.
use Prim.Native.Nat.{ℕ, zero, suc, ◌+◌, ◌≤◌, ◌<◌}
use mathlib.Core.Path.{◌≡◌, refl}
use mathlib.Core.Bool.{cond}
use mathlib.Core.List.{List, [], ◌∷◌, ◌++◌}
use native.Mathlib.Omega.{arith}
use native.Mathlib.Nat.{le_of_lt}
use lib.Dec.{ltb}
use lib.ListN.{length-append, get_or-append}
use lib.Seq.{get_or_at}
use Rattle.model.specs.Traces.{Trace, segs, steps, size_of, unit_of, entry, touched, touching, over_touches, unreferenced}
use Rattle.model.specs.Figures.{ref_cost, ref_volume}
use Rattle.model.proofs.Sums.{sum-suc, sum-eq}

-- the run T with the references l; kind, a, sizes and start are those of T
abbrev pub with_refs : Trace → List ℕ → Trace
with_refs T l = record { kind = T.kind; a = T.a; sizes = T.sizes; start = T.start; entries = l }

-- the run with one more entry x at the end
abbrev pub grown : Trace → ℕ → Trace
grown T x = with_refs T (T.entries ++ (x ∷ []))

-- the references l give the same entries as T at the places below n
abbrev pub Agree : ℕ → Trace → List ℕ → Type 0
Agree n T l = (t : ℕ) → t < n → entry (with_refs T l) t ≡ entry T t

-- where the entries below n agree, the same segments are touched below n, and up to n they have the same unreferenced times
touched-agree : (T : Trace) (l : List ℕ) (n : ℕ) → Agree n T l → (t i : ℕ) → t < n → touched (with_refs T l) t i ≡ touched T t i
touched-agree T l n same t i lt = rw (same t lt)

pub unreferenced-past : (T : Trace) (l : List ℕ) (n : ℕ) → Agree n T l → (t i : ℕ) → t ≤ n
    → unreferenced (with_refs T l) t i ≡ unreferenced T t i
unfolding unreferenced
unreferenced-past T l n same zero i le = refl
unreferenced-past T l n same (suc t) i le = rw (touched-agree T l n same t i le, unreferenced-past T l n same t i (le_of_lt le))

module _ (T : Trace) (x : ℕ) where
  pub steps-grown : steps (grown T x) ≡ suc (steps T)
  steps-grown = omega (arith, length-append T.entries (x ∷ []))

  pub entry-grown : entry (grown T x) (steps T) ≡ x
  entry-grown = get_or_at T.entries x [] (segs T) (steps T) refl

  -- the entries of the old places stay
  pub grown-agree : Agree (steps T) T (T.entries ++ (x ∷ []))
  grown-agree t lt = get_or-append T.entries (x ∷ []) (segs T) t lt

  -- the new step adds what a touch of x adds, where f of a segment is added for each touch; nothing where x is no segment number
  grown-adds : (f : ℕ → ℕ) → over_touches (grown T x) (λ t i. f i) ≡ over_touches T (λ t i. f i) + cond (ltb x (segs T)) (f x) 0
  unfolding touching
  grown-adds f =
      rw (
        steps-grown,
        sum-suc (steps T) (touching (grown T x) (λ t i. f i)),
        sum-eq (steps T) (touching (grown T x) (λ t i. f i)) (touching T (λ t i. f i)) (λ t lt. rw (grown-agree t lt)),
        entry-grown,
      )

  pub cost-grown : ref_cost (grown T x) ≡ ref_cost T + cond (ltb x (segs T)) (unit_of T x) 0
  unfolding ref_cost
  cost-grown = grown-adds (unit_of T)

  pub volume-grown : ref_volume (grown T x) ≡ ref_volume T + cond (ltb x (segs T)) (size_of T x) 0
  unfolding ref_volume
  volume-grown = grown-adds (size_of T)
