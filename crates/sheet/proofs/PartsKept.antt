-- Laws of parts that follow one another: what is read of them is what their lines say.
use Prim.Native.Nat.{ℕ}
use mathlib.Core.Path.{◌≡◌, sym, ap}
use mathlib.Core.List.{List, [], ◌∷◌, ◌++◌, append_assoc, append-nil, map}
use Rattle.text.specs.Texts.{line_text, lines_text}
use Rattle.text.proofs.Runs.{lines-append, lines-map}
use Rattle.sheet.specs.Lines.{Parsed, read}
use Rattle.sheet.specs.Parts.{Line, Part, text_of, whole, then}
use Rattle.sheet.proofs.Parsing.{then-read, Reads}

-- a part keeps the values that fit: each is read back from its lines, and what is read are the lines of a value that fits
pub record Kept {A : Type 0} (p : Part A) (Fits : A → Type 0) : Type 0 where
  pub both : Reads p.reads (λ a. text_of (p.lines a)) Fits

-- what fits in one way, and in another that is the same
pub reads_as : {A : Type 0} {p : List ℕ → Parsed A} {text : A → List ℕ} {F G : A → Type 0} → Reads p text F
    → ((a : A) → F a → G a) → ((a : A) → G a → F a) → Reads p text G
reads_as r f g =
    record { forth = λ a rest h. r.forth a rest (g a h); back = λ s a rest e. let (t, h) = r.back s a rest e in (t, f a h) }

-- one line
pub line_kept : {A : Type 0} (key : List ℕ) (word : A → List ℕ) (p : List ℕ → Parsed A) (F : A → Type 0)
    → Reads p (λ a. line_text key (word a)) F → Kept (record { lines = λ a. (key, word a) ∷ []; reads = p }) F
unfolding lines_text
line_kept key word p F r = record {
  both =
      record {
        forth = λ a rest h. rw (append-nil (line_text key (word a))) (r.forth a rest h);
        back = λ s a rest e. rw (append-nil (line_text key (word a))) (r.back s a rest e);
      };
}

-- a line for each element
pub lines-kept : {A : Type 0} (key : List ℕ) (word : A → List ℕ) (p : List ℕ → Parsed (List A)) (F : List A → Type 0)
    → Reads p (λ xs. lines_text (λ x. line_text key (word x)) xs) F
    → Kept (record { lines = λ xs. map (λ x. (key, word x)) xs; reads = p }) F
lines-kept {A} key word p F r = record {
  both =
      record {
        forth = λ xs rest h. rw (text xs) (r.forth xs rest h);
        back = λ s xs rest e. rw (text xs) (r.back s xs rest e);
      };
}
  where
    text : (xs : List A) → text_of (map (λ x. (key, word x)) xs) ≡ lines_text (λ x. line_text key (word x)) xs
    text xs = lines-map (λ (l : Line). line_text l.0 l.1) (λ x. (key, word x)) xs

-- no more lines
pub whole-kept : {B : Type 0} (v : B) → Kept (whole v) (λ w. w ≡ v)
unfolding lines_text
whole-kept v = record { both = record { forth = λ w rest e. ap (λ x. read x rest) (sym e); back = λ s w rest e. ((cc), (cc)) } }

-- a part and what follows it, where the whole gives the part its value
pub then-kept : {A B : Type 0} {p : Part A} {of : B → A} {more : A → Part B} {F : A → Type 0} {G : A → B → Type 0}
    → Kept p F → ((a : A) → F a → Kept (more a) (G a)) → ((a : A) (v : B) → F a → G a v → of v ≡ a)
    → Kept (then p of more) (λ v. F (of v) × G (of v) v)
then-kept {A} {B} {p} {of} {more} {F} {G} k l m = record {
  both =
      record {
        forth = λ v rest h.
            let x = text_of (p.lines (of v)) in
            let y = text_of ((more (of v)).lines v) in
            rw (
              lines-append (λ (n : Line). line_text n.0 n.1) (p.lines (of v)) ((more (of v)).lines v),
              append_assoc x y rest,
              k.both.forth (of v) (y ++ rest) h.0,
            )
            ((l (of v) h.0).both.forth v rest h.1);
        back = λ s v rest e.
            then-read (p.reads s) _ v rest e λ a mid e₁ e₂.
            let (t, f) = k.both.back s a mid e₁ in
            let (u, g) = (l a f).both.back mid v rest e₂ in
            rw (
              m a v f g,
              lines-append (λ (n : Line). line_text n.0 n.1) (p.lines a) ((more a).lines v),
              append_assoc (text_of (p.lines a)) (text_of ((more a).lines v)) rest,
              ← u,
            )
            (t, (f, g));
      };
}
