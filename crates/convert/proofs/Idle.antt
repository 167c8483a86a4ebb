-- Laws of idle entries: whether there is one, each entry of a list without an idle one, and how many touches there are.
use Prim.Native.Nat.{ℕ, zero, suc, ◌≤◌, ◌<◌}
use mathlib.Core.Path.{◌≡◌, refl, sym, ap, ◌∙◌}
use mathlib.Core.Bool.{Bool, true, false, cond, ◌||◌, false≢true}
use mathlib.Core.List.{List, [], ◌∷◌}
use native.Mathlib.Nat.{le_of_suc-le-suc, not-suc-le-zero}
use native.Mathlib.Omega.{arith}
use borrow.Author.Tests.{eq-eqb, ne_eqb}
use lib.Dec.{eqb}
use lib.ListN.{length, get_or}
use Rattle.std.specs.List.{list_any}
use Rattle.model.specs.Sheets.{idle}
use Rattle.sheet.specs.Touches.{Touch, touches_from}
use Rattle.sheet.specs.Forms.{some_idle}

-- whether some entry is idle, as a search through the slice tells it
pub idle-any : (xs : List ℕ) → some_idle xs ≡ list_any (λ x. eqb x idle) xs
unfolding some_idle
idle-any [] = refl
idle-any (x ∷ xs) = rw (idle-any xs) (go (eqb x idle) (list_any (λ y. eqb y idle) xs))
  where
    go : (b r : Bool) → cond b true r ≡ b || r
    go true r = refl
    go false r = refl

-- ---- each entry

-- in a list without an idle entry, the entry at t is not idle
pub none-idle : (xs : List ℕ) (t d : ℕ) → some_idle xs ≡ false → t < length xs → get_or xs t d ≡ idle → ⊥
unfolding some_idle
none-idle [] t d e l f = absurd (not-suc-le-zero l)
none-idle (x ∷ xs) zero d e l f = false≢true (sym e ∙ rw (eq-eqb x idle f))
none-idle (x ∷ xs) (suc t) d e l f = none-idle xs t d (go (eqb x idle) e) (le_of_suc-le-suc l) f
  where
    go : (b : Bool) → cond b true (some_idle xs) ≡ false → some_idle xs ≡ false
    go true g = absurd (false≢true (sym g))
    go false g = g

-- and a list in which no entry is idle has none
pub idle-none : (xs : List ℕ) (d : ℕ) → ((t : ℕ) → t < length xs → get_or xs t d ≡ idle → ⊥) → some_idle xs ≡ false
unfolding some_idle
idle-none [] d f = refl
idle-none (x ∷ xs) d f = rw (ne_eqb x idle (f 0 (omega arith))) (idle-none xs d (λ t l. f (suc t) (omega arith)))

-- ---- how many touches

-- where no entry is idle there are as many touches as steps, whichever modify
pub touches-all : (marks : ℕ → Bool) (xs : List ℕ) (before : ℕ) → some_idle xs ≡ false → length (touches_from marks before xs) ≡ length xs
unfolding some_idle touches_from
touches-all marks [] before e = refl
touches-all marks (x ∷ xs) before e = go (eqb x idle) _ e (touches-all marks xs (suc before))
  where
    go : (b : Bool) (t : Touch) → cond b true (some_idle xs) ≡ false
        → (some_idle xs ≡ false → length (touches_from marks (suc before) xs) ≡ length xs)
        → length (cond b (touches_from marks (suc before) xs) (t ∷ touches_from marks (suc before) xs)) ≡ suc (length xs)
    go true t g f = absurd (false≢true (sym g))
    go false t g f = ap suc (f g)

-- at most as many, so fewer where one entry has none
touches-most : (marks : ℕ → Bool) (xs : List ℕ) (before : ℕ)
    → (length (touches_from marks before xs) ≤ length xs) × (some_idle xs ≡ true → length (touches_from marks before xs) < length xs)
unfolding some_idle touches_from
touches-most marks [] before = (omega arith, λ e. absurd (false≢true e))
touches-most marks (x ∷ xs) before = go (eqb x idle) _ (touches-most marks xs (suc before))
  where
    go : (b : Bool) (t : Touch)
        → (let ts = touches_from marks (suc before) xs in (length ts ≤ length xs) × (some_idle xs ≡ true → length ts < length xs))
        → (let ts = touches_from marks (suc before) xs in
        let n = length (cond b ts (t ∷ ts)) in
        (n ≤ suc (length xs)) × (cond b true (some_idle xs) ≡ true → n < suc (length xs)))
    go true t f = (omega (arith, f.0), λ _. omega (arith, f.0))
    go false t f = (omega (arith, f.0), λ e. omega (arith, f.1 e))

pub touches-fewer : (marks : ℕ → Bool) (xs : List ℕ) (before : ℕ) → some_idle xs ≡ true → length (touches_from marks before xs) < length xs
touches-fewer marks xs before e = (touches-most marks xs before).1 e
