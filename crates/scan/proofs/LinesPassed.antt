-- What is known while n lines of one kind are read one after another into a list: the lines passed stand at its front.
use Prim.Native.Nat.{ℕ, zero, suc, ◌+◌, ◌-◌, ◌≤◌, ◌<◌}
use mathlib.Core.Path.{◌≡◌, refl, sym, ap, ◌∙◌}
use mathlib.Core.List.{List, [], ◌∷◌, ◌++◌, append_assoc, append-nil}
use mathlib.Core.Option.{some}
use native.Mathlib.Nat.{sub-zero}
use native.Mathlib.Numerals.{add-one}
use native.Mathlib.Omega.{arith}
use lib.ListN.{length, take, drop, set, length-set}
use lib.Seq.{drop-drop, take_all, take-suc-set}
use Rattle.model.specs.declared.Refusal.{Refusal}
use Rattle.sheet.specs.Lines.{Parsed, read, refused, and_then, number_line, number_lines}
use Rattle.sheet.specs.Values.{row_line, row_lines}
use Rattle.scan.proofs.Tails.{tail, tail-is, tail-place}

-- values in front of those that are read
abbrev pub behind : {A : Type 0} → List A → Parsed (List A) → Parsed (List A)
behind xs p = and_then p (λ ys end. read (xs ++ ys) end)

-- one value more
behind-suc : {A : Type 0} (xs : List A) (x : A) (p : Parsed (List A)) → behind xs (behind (x ∷ []) p) ≡ behind (xs ++ (x ∷ [])) p
behind-suc xs x (read ys end) = ap (λ zs. read zs end) (sym (append_assoc xs (x ∷ []) ys))
behind-suc xs x (refused r) = refl

-- F reads n lines, each by `line` at what the line before it left
pub record Repeats {A St : Type 0} (F : ℕ → St → List ℕ → Parsed (List A)) (line : St → List ℕ → Parsed A) (after : A → St) : Type 0 where
  pub none_left : (st : St) (s : List ℕ) → F zero st s ≡ read [] s
  pub one_more : (n : ℕ) (st : St) (s : List ℕ)
      → F (suc n) st s ≡ and_then (line st s) (λ x rest. and_then (F n (after x) rest) (λ xs end. read (x ∷ xs) end))

-- i of n lines of s are passed, their values stand at the front of xs, and the next line stands at `at`
pub record PassedLines {A St : Type 0} (F : ℕ → St → List ℕ → Parsed (List A)) (n : ℕ) (st₀ : St) (s : List ℕ)
    (xs : List A) (st : St) (at i : ℕ) : Type 0 where
  pub count : i ≤ n
  pub place : at ≤ length s
  pub room : n ≤ length xs
  pub same : F n st₀ s ≡ behind (take i xs) (F (n - i) st (drop at s))

-- the same where there is a line for each place of the list, which is as long as it was
pub record PassedWhole {A St : Type 0} (F : ℕ → St → List ℕ → Parsed (List A)) (st₀ : St) (s : List ℕ) (xs₀ xs : List A)
    (st : St) (at i : ℕ) : Type 0 where
  pub passed : PassedLines F (length xs₀) st₀ s xs st at i
  pub whole : length xs ≡ length xs₀

module _ {A St : Type 0} (F : ℕ → St → List ℕ → Parsed (List A)) (line : St → List ℕ → Parsed A) (after : A → St)
    (w : Repeats F line after) (n : ℕ) (st₀ : St) (s : List ℕ) where
  -- before the first line
  pub pass_start : (xs : List A) → n ≤ length xs → PassedLines F n st₀ s xs st₀ 0 0
  pass_start xs h = record { count = omega arith; place = omega arith; room = h; same = go (F n st₀ s) ∙ rw sub-zero }
    where
      go : (p : Parsed (List A)) → p ≡ behind [] p
      go (read ys end) = refl
      go (refused r) = refl

  module _ (xs : List A) (st : St) (at i : ℕ) (c : PassedLines F n st₀ s xs st at i) where
    -- what the next line gives decides
    next_line : (p : Parsed A) → i < n → line st (tail s at) ≡ p
        → F n st₀ s ≡ behind (take i xs) (and_then p (λ x rest. behind (x ∷ []) (F (n - suc i) (after x) rest)))
    next_line p h e =
        let k : n - i ≡ suc (n - suc i) = omega arith in
        c.same ∙ rw (k, w.one_more (n - suc i) st (drop at s), ← (tail-is s at), e)

    -- after one line more
    pub pass_step : (x : A) (next : ℕ) → i < n → line st (tail s at) ≡ read x (drop next (tail s at)) → next ≤ length (tail s at)
        → PassedLines F n st₀ s (set xs i x) (after x) (at + next) (i + 1)
    pass_step x next h e l =
        let t : take (suc i) (set xs i x) ≡ take i xs ++ (x ∷ []) = take-suc-set xs i x (omega (arith, c.room)) in
        record {
          count = omega arith;
          place = tail-place s at next c.place l;
          room = rw length-set c.room;
          same =
              next_line (read x (drop next (tail s at))) h e
              ∙ (behind-suc (take i xs) x (F (n - suc i) (after x) (drop next (tail s at))) ∙ rw (add-one i, t, tail-is s at, drop-drop));
        }

    -- at a line that is refused
    pub pass_stop : (r : Refusal) → i < n → line st (tail s at) ≡ refused r → F n st₀ s ≡ refused r
    pass_stop r h e = next_line (refused r) h e

    -- after the last line
    pub pass_end : n ≤ i → F n st₀ s ≡ read (take n xs) (drop at s)
    pass_end h =
        let k : n - i ≡ zero = omega arith in
        let j : i ≡ n = omega (arith, c.count) in
        c.same ∙ rw (k, w.none_left st (drop at s), append-nil, j)

    -- after the last line, where the list is no longer than the lines are many
    pub pass_whole : n ≤ i → length xs ≤ n → F n st₀ s ≡ read xs (drop at s)
    pass_whole h l = pass_end h ∙ ap (λ ys. read ys (drop at s)) (take_all n xs l)

-- ---- lines with a number, and rows

-- lines with a number leave nothing to the next
abbrev pub numbers : List ℕ → ℕ → ℕ → ℕ → Unit {0} → List ℕ → Parsed (List ℕ)
numbers key lo hi n u s = number_lines key lo hi n s

pub numbers-repeat : (key : List ℕ) (lo hi : ℕ) → Repeats (numbers key lo hi) (λ u s. number_line key lo hi s) (λ x. tt)
unfolding number_lines
numbers-repeat key lo hi = record { none_left = λ u s. refl; one_more = λ n u s. refl }

-- a row leaves itself
pub rows-repeat : Repeats row_lines row_line some
unfolding row_lines
rows-repeat = record { none_left = λ p s. refl; one_more = λ n p s. refl }
