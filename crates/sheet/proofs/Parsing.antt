-- Laws of reading from the head of a run of bytes: of two steps one after the other, of the split at a byte, and of a line by its value.
use Prim.Native.Nat.{ℕ}
use mathlib.Core.Path.{◌≡◌, refl, sym, ap, ◌∙◌}
use mathlib.Core.Bool.{Bool, true, false, cond, not, ◌&&◌, false≢true}
use mathlib.Core.List.{List, [], ◌∷◌, ◌++◌, append_assoc}
use native.Mathlib.Omega.{arith}
use borrow.Author.Tests.{eqb-true, eq-eqb, ne_eqb, not-true}
use lib.Dec.{eqb}
use Rattle.decimal.specs.Decimal.{is_digit, all_digits}
use Rattle.decimal.proofs.Digits.{both}
use Rattle.model.specs.declared.Refusal.{Refusal}
use Rattle.text.specs.Keys.{line_feed}
use Rattle.sheet.specs.Lines.{Parsed, read, refused, and_then, Split, parts, none, and_before, split_at, after_key, of_line, value_line}
use Rattle.text.specs.Texts.{line_text}

-- what a test picks is the one or the other
pub by-test : {A P : Type 0} (t : Bool) (x y z : A) → cond t x y ≡ z → (t ≡ true → x ≡ z → P) → (t ≡ false → y ≡ z → P) → P
by-test true x y z e f g = f refl e
by-test false x y z e f g = g refl e

-- ---- two steps

-- a refusal is no value
pub refused-read : {A : Type 0} {r : Refusal} {a : A} {s : List ℕ} → ◌≡◌ {A = Parsed A} (refused r) (read a s) → ⊥
refused-read e = let z : ◌≡◌ {A = ℕ} 0 1 = cc in omega arith

-- a test with a refusal: what is read passed it
pub passed : {A : Type 0} (t : Bool) (p : Parsed A) (r : Refusal) (a : A) (end : List ℕ) → cond t p (refused r) ≡ read a end
    → (t ≡ true) × (p ≡ read a end)
passed true p r a end e = (refl, e)
passed false p r a end e = absurd (refused-read e)

-- what two steps read: the first reads a value, and the second goes on from it
pub then-read : {A B P : Type 0} (p : Parsed A) (f : A → List ℕ → Parsed B) (b : B) (end : List ℕ) → and_then p f ≡ read b end
    → ((a : A) (rest : List ℕ) → p ≡ read a rest → f a rest ≡ read b end → P) → P
then-read (read a rest) f b end e k = k a rest refl e
then-read (refused r) f b end e k = absurd (refused-read e)

-- a parser reads what a text writes: the text of each value that fits is read back, and what is read is the text of a value that fits
pub record Reads {A : Type 0} (p : List ℕ → Parsed A) (text : A → List ℕ) (Fits : A → Type 0) : Type 0 where
  pub forth : (a : A) (rest : List ℕ) → Fits a → p (text a ++ rest) ≡ read a rest
  pub back : (s : List ℕ) (a : A) (rest : List ℕ) → p s ≡ read a rest → (s ≡ text a ++ rest) × Fits a

-- ---- the split at a byte

-- no byte is c
abbrev pub lacks : ℕ → List ℕ → Bool
lacks c [] = true
lacks c (b ∷ s) = not (eqb b c) && lacks c s

-- what two lists lack, the two together lack
pub lacks-append : (c : ℕ) (s t : List ℕ) → lacks c s ≡ true → lacks c t ≡ true → lacks c (s ++ t) ≡ true
lacks-append c [] t e f = f
lacks-append c (b ∷ s) t e f = let (n, r) = both (not (eqb b c)) (lacks c s) e in rw (n, lacks-append c s t r f)

-- digits lack each byte that is no digit
pub lacks-digits : (c : ℕ) (s : List ℕ) → is_digit c ≡ false → all_digits s ≡ true → lacks c s ≡ true
unfolding all_digits
lacks-digits c [] h e = refl
lacks-digits c (b ∷ s) h e =
    let (d, r) = both (is_digit b) (all_digits s) e in
    rw (ne_eqb b c (λ p. false≢true (sym h ∙ (ap is_digit (sym p) ∙ d))), lacks-digits c s h r)

-- a run of bytes is split at its first c
pub split-forth : (c : ℕ) (x y : List ℕ) → lacks c x ≡ true → split_at c (x ++ (c ∷ y)) ≡ parts x y
unfolding split_at
split-forth c [] y e = rw (eq-eqb c c refl)
split-forth c (b ∷ x) y e =
    let (n, r) = both (not (eqb b c)) (lacks c x) e in
    rw (not-true (eqb b c) n, split-forth c x y r)

-- what lacks a byte is not split at it
pub split-none : (c : ℕ) (x : List ℕ) → lacks c x ≡ true → split_at c x ≡ none
unfolding split_at
split-none c [] e = refl
split-none c (b ∷ x) e =
    let (n, r) = both (not (eqb b c)) (lacks c x) e in
    rw (not-true (eqb b c) n, split-none c x r)

-- the parts with a byte in front are parts with it in front
before-parts : (b : ℕ) (p : Split) (x y : List ℕ) → and_before b p ≡ parts x y → (x' : List ℕ) × (p ≡ parts x' y) × (x ≡ b ∷ x')
before-parts b (parts x' y') x y e = (x', (cc), (cc))
before-parts b none x y e = ([], (cc), (cc))

-- and its parts make it up
pub split-back : (c : ℕ) (s x y : List ℕ) → split_at c s ≡ parts x y → s ≡ x ++ (c ∷ y)
unfolding split_at
split-back c [] x y e = cc
split-back c (b ∷ s) x y e =
    by-test (eqb b c) _ _ (parts x y) e
    (λ h f. cc (eqb-true b c h))
    (λ h f. let (x', p, q) = before-parts b (split_at c s) x y f in rw q (ap (λ t. b ∷ t) (split-back c s x' y p)))

-- ---- a line by its value

-- what stands after the key
after-forth : (key line rest : List ℕ) → after_key key (key ++ line) rest ≡ read line rest
unfolding after_key
after-forth [] line rest = refl
after-forth (k ∷ key) line rest = rw (eq-eqb k k refl, after-forth key line rest)

-- and what is read stood after the key
pub after-back : (key line rest v end : List ℕ) → after_key key line rest ≡ read v end → (line ≡ key ++ v) × (rest ≡ end)
unfolding after_key
after-back [] line rest v end e = ((cc), (cc))
after-back (k ∷ key) [] rest v end e = absurd (refused-read e)
after-back (k ∷ key) (b ∷ line) rest v end e =
    let (h, f) = passed (eqb b k) _ _ v end e in
    let (l, r) = after-back key line rest v end f in
    (rw (l, eqb-true b k h), r)

-- a line's value is read where neither the key nor the value has a line feed
pub value-forth : (key v rest : List ℕ) → lacks line_feed key ≡ true → lacks line_feed v ≡ true
    → value_line key (line_text key v ++ rest) ≡ read v rest
unfolding value_line
value-forth key v rest k h =
    let e = split-forth line_feed (key ++ v) rest (lacks-append line_feed key v k h) in
    rw (append_assoc, append_assoc, ← append_assoc key v (line_feed ∷ rest), e)
    (after-forth key v rest)

-- and it is a line's value
value-back : (key s v rest : List ℕ) → value_line key s ≡ read v rest → s ≡ line_text key v ++ rest
unfolding value_line
value-back key s v rest e = go (split_at line_feed s) refl e
  where
    go : (p : Split) → split_at line_feed s ≡ p → of_line key p ≡ read v rest → s ≡ line_text key v ++ rest
    go (parts line end) h f =
        let (l, r) = after-back key line end v rest f in
        split-back line_feed s line end h ∙ (rw (l, r) (simp append_assoc))
    go none h f = absurd (refused-read f)

-- how a line's value is read: the word of each value that fits is read back, and what is read is the word of a value that fits
pub record Words {A : Type 0} (f : List ℕ → List ℕ → Parsed A) (word : A → List ℕ) (Fits : A → Type 0) : Type 0 where
  pub plain : (a : A) → lacks line_feed (word a) ≡ true
  pub forth : (a : A) (rest : List ℕ) → Fits a → f (word a) rest ≡ read a rest
  pub back : (v rest : List ℕ) (a : A) (end : List ℕ) → f v rest ≡ read a end → (v ≡ word a) × (rest ≡ end) × Fits a

-- then the line is read so
pub line_reads : {A : Type 0} (key : List ℕ) (f : List ℕ → List ℕ → Parsed A) (word : A → List ℕ) (Fits : A → Type 0)
    → lacks line_feed key ≡ true → Words f word Fits → Reads (λ s. and_then (value_line key s) f) (λ a. line_text key (word a)) Fits
line_reads key f word Fits k w =
    record {
      forth = λ a rest h. rw (value-forth key (word a) rest k (w.plain a)) (w.forth a rest h);
      back = λ s a rest e. then-read (value_line key s) f a rest e λ v end p q.
          let (x, y, z) = w.back v end a rest q in
          (value-back key s v end p ∙ rw (x, y), z);
    }
