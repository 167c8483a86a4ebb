-- Lines one after another, one for each element of a list: what each of them says, and how long they are.
use Prim.Native.Nat.{ℕ, zero, suc, ◌+◌, ◌*◌, ◌≤◌, ◌<◌}
use mathlib.Core.Path.{◌≡◌, refl, ap}
use mathlib.Core.List.{List, [], ◌∷◌, ◌++◌, append_assoc, append-nil, map}
use mathlib.Core.Option.{Option, some}
use native.Mathlib.Nat.{le_of_suc-le-suc, not-suc-le-zero}
use native.Mathlib.Numerals.{add-one}
use native.Mathlib.Omega.{arith}
use lib.ListN.{length, get_or, take, length-append, take-append-drop}
use lib.Seq.{take-suc, take-take}
use Rattle.text.specs.Texts.{lines_text}

-- each element fits after the one before
abbrev pub Each : {A : Type 0} → (Option A → A → Type 0) → Option A → List A → Type 0
Each F prev [] = Unit {0}
Each F prev (x ∷ xs) = F prev x × Each F (some x) xs

-- ---- what each element is

-- the element before the one at i
abbrev pub before : {A : Type 0} → A → Option A → List A → ℕ → Option A
before d prev xs zero = prev
before d prev xs (suc i) = some (get_or xs i d)

-- after a first element, it is one further on in the list
before-cons : {A : Type 0} (d x : A) (xs : List A) (i : ℕ) → before d (some x) xs i ≡ some (get_or (x ∷ xs) i d)
before-cons d x xs zero = refl
before-cons d x xs (suc i) = refl

module _ {A : Type 0} (F : Option A → A → Type 0) (d : A) where
  -- each element fits, so the one at i does
  pub each_at : (prev : Option A) (xs : List A) → Each F prev xs → (i : ℕ) → i < length xs → F (before d prev xs i) (get_or xs i d)
  each_at prev [] h i l = absurd (not-suc-le-zero l)
  each_at prev (x ∷ xs) h zero l = h.0
  each_at prev (x ∷ xs) h (suc i) l = rw (before-cons d x xs i) at (each_at (some x) xs h.1 i (le_of_suc-le-suc l))

  -- the one at every i fits, so each does
  pub each_of : (prev : Option A) (xs : List A) → ((i : ℕ) → i < length xs → F (before d prev xs i) (get_or xs i d)) → Each F prev xs
  each_of prev [] h = tt
  each_of prev (x ∷ xs) h = (h 0 (omega arith), each_of (some x) xs (λ i l. rw (before-cons d x xs i) (h (suc i) (omega arith))))

-- what fits in one way fits in another that follows from it
pub each_map : {A : Type 0} (F G : Option A → A → Type 0) → ((prev : Option A) (x : A) → F prev x → G prev x)
    → (prev : Option A) (xs : List A) → Each F prev xs → Each G prev xs
each_map F G f prev [] h = tt
each_map F G f prev (x ∷ xs) h = (f prev x h.0, each_map F G f (some x) xs h.1)

-- ---- how long they are

-- elements that fit, each with a line of lo to hi bytes
pub lines-length : {A : Type 0} (text : A → List ℕ) (F : Option A → A → Type 0) (lo hi : ℕ)
    → ((prev : Option A) (x : A) → F prev x → (lo ≤ length (text x)) × (length (text x) ≤ hi))
    → (prev : Option A) (xs : List A) → Each F prev xs
    → (length xs * lo ≤ length (lines_text text xs)) × (length (lines_text text xs) ≤ length xs * hi)
unfolding lines_text
lines-length text F lo hi f prev [] h = omega arith
lines-length text F lo hi f prev (x ∷ xs) h =
    rw length-append (omega (arith, lines-length text F lo hi f (some x) xs h.1, f prev x h.0))

-- ---- one line more

module _ {A : Type 0} (text : A → List ℕ) where
  -- the lines of two lists one after the other
  pub lines-append : (xs ys : List A) → lines_text text (xs ++ ys) ≡ lines_text text xs ++ lines_text text ys
  unfolding lines_text
  lines-append [] ys = refl
  lines-append (x ∷ xs) ys = rw (lines-append xs ys, append_assoc)

  -- the lines of one element more
  pub lines_next_lem : (xs : List A) (i : ℕ) (d : A) → i < length xs
      → lines_text text (take (i + 1) xs) ≡ lines_text text (take i xs) ++ text (get_or xs i d)
  unfolding lines_text
  lines_next_lem xs i d h = rw (add-one i, take-suc xs i d h, lines-append, append-nil)

  -- the first lines are no longer than all
  lines-first : (xs : List A) (i : ℕ) → length (lines_text text (take i xs)) ≤ length (lines_text text xs)
  lines-first xs i = omega (arith, rw (lines-append, length-append) at (ap (λ l. length (lines_text text l)) (take-append-drop i xs)))

  -- the length of the lines passed, and of one more
  pub lines-sum : (xs : List A) (i : ℕ) (d : A) {sum w : ℕ} → i < length xs → sum ≡ length (lines_text text (take i xs))
      → w ≡ length (text (get_or xs i d)) → sum + w ≡ length (lines_text text (take (i + 1) xs))
  lines-sum xs i d h e f = rw (lines_next_lem xs i d h, length-append, e, f)

  -- the lines passed and one more are no longer than the first n
  pub lines-room : (xs : List A) (i n : ℕ) (d : A) → i < n → i < length xs
      → length (lines_text text (take i xs)) + length (text (get_or xs i d)) ≤ length (lines_text text (take n xs))
  lines-room xs i n d h l =
      rw (lines-sum xs i d l refl refl) (rw (take-take (i + 1) n xs (omega arith)) at (lines-first (take n xs) (i + 1)))

-- the lines of the images of elements
pub lines-map : {A B : Type 0} (text : B → List ℕ) (f : A → B) (xs : List A) → lines_text text (map f xs) ≡ lines_text (λ x. text (f x)) xs
unfolding lines_text
lines-map text f [] = refl
lines-map text f (x ∷ xs) = rw (lines-map text f xs)
