-- The entries of a joint sheet: each is the touch of one of the two sheets, or idle.
use Prim.Native.Nat.{ℕ, zero, suc, ◌+◌, ◌≤◌, ◌<◌}
use mathlib.Core.Path.{◌≡◌, refl, sym, ap, ◌∙◌}
use mathlib.Core.Logic.{◌⊎◌, inl, inr, ⊎_elim}
use mathlib.Core.Bool.{Bool, true, false, cond, not, ◌&&◌, ◌||◌, true≢false}
use mathlib.Core.List.{List}
use native.Mathlib.Omega.{arith}
use lib.Dec.{eqb, ltb}
use lib.ListN.{length, get_or, get_or-eq_default}
use borrow.Author.Tests.{eqb-true, eqb-false, eq-eqb, ne_eqb, ltb-true, ltb-false}
use Rattle.model.specs.Sheets.{SheetValue, Valid, idle, most_segs, trace_of}
use Rattle.model.specs.Traces.{segs, entry, touched}
use Rattle.model.proofs.Lists.{get_or-any}
use Rattle.model.proofs.Sums.{last-or-below}
use Rattle.model.proofs.Tables.{length-tabulate, get_or-tabulate}
use Rattle.model.proofs.Touches.{touched-entry}
use Rattle.joint.specs.Joint.{both_touch, joint_steps, joint_entry, joint_refs}

-- the entry at place t; beyond the last step idle
abbrev pub entry_of : SheetValue → ℕ → ℕ
entry_of v t = get_or v.entries t idle

pub entry-beyond : (v : SheetValue) (t : ℕ) → length v.entries ≤ t → entry_of v t ≡ idle
entry-beyond v t le = get_or-eq_default v.entries idle le

-- a place is one of the first n or beyond them
pub below-or-beyond : (t n : ℕ) → (t < n) ⊎ (n ≤ t)
below-or-beyond t n = go (ltb t n) refl
  where
    go : (b : Bool) → ltb t n ≡ b → (t < n) ⊎ (n ≤ t)
    go true e = inl (ltb-true t n e)
    go false e = inr (ltb-false t n e)

module _ (v : SheetValue) (ok : Valid v) where
  -- within the steps it is the entry of the run
  entry-run : (t : ℕ) → t < length v.entries → entry_of v t ≡ entry (trace_of v) t
  entry-run t lt = get_or-any v.entries t idle (segs (trace_of v)) lt

  -- it is a segment or idle
  pub entry_within : (t : ℕ) → (entry_of v t < segs (trace_of v)) ⊎ (entry_of v t ≡ idle)
  entry_within t =
      ⊎_elim (λ lt. rw (entry-run t lt) (ok.run.entry_within t lt)) (λ le. inr (entry-beyond v t le))
      (below-or-beyond t (length v.entries))

  -- what it touches
  pub touched-by : (t i : ℕ) → i < segs (trace_of v) → touched (trace_of v) t i ≡ eqb (entry_of v t) i
  touched-by t i l =
      touched-entry (trace_of v) t i l
      ∙ ⊎_elim (λ lt. rw (entry-run t lt)) (λ le. beyond le) (below-or-beyond t (length v.entries))
    where
      beyond : length v.entries ≤ t → eqb (entry (trace_of v) t) i ≡ eqb (entry_of v t) i
      beyond le =
          rw (
            get_or-eq_default v.entries (segs (trace_of v)) le,
            entry-beyond v t le,
            ne_eqb (segs (trace_of v)) i (λ same. omega arith),
          )
          (sym (ne_eqb idle i (λ same. omega (arith, ok.run.segs_within))))

-- where no step has touches of both, one of the two entries is idle
not-both : (xs ys : List ℕ) (n : ℕ) → both_touch xs ys n ≡ false → (t : ℕ) → t < n → (get_or xs t idle ≡ idle) ⊎ (get_or ys t idle ≡ idle)
unfolding both_touch
not-both xs ys zero e t lt = absurd (omega arith)
not-both xs ys (suc n) e t lt =
    ⊎_elim (λ same. rw same (here (eqb (get_or xs n idle) idle) (eqb (get_or ys n idle) idle) refl refl (right (both_touch xs ys n) _ e)))
    (λ l. not-both xs ys n (left (both_touch xs ys n) _ e) t l)
    (last-or-below n t lt)
  where
    left : (a b : Bool) → a || b ≡ false → a ≡ false
    left true b f = f
    left false b f = refl

    right : (a b : Bool) → a || b ≡ false → b ≡ false
    right true b f = absurd (true≢false f)
    right false b f = f

    here : (a b : Bool) → eqb (get_or xs n idle) idle ≡ a → eqb (get_or ys n idle) idle ≡ b → not a && not b ≡ false
        → (get_or xs n idle ≡ idle) ⊎ (get_or ys n idle ≡ idle)
    here true b f g m = inl (eqb-true (get_or xs n idle) idle f)
    here false true f g m = inr (eqb-true (get_or ys n idle) idle g)
    here false false f g m = absurd (true≢false m)

-- which segment an entry x or y of the first or the second makes the joint entry
module _ (n x y : ℕ) where
  -- of the first's segments
  pub first-touch : (i : ℕ) → i < n → n ≤ most_segs → eqb (joint_entry n x y) i ≡ eqb x i
  first-touch i lt few = go (eqb x idle) refl (eqb y idle)
    where
      go : (b : Bool) → eqb x idle ≡ b → (c : Bool) → eqb (cond b (cond c idle (n + y)) x) i ≡ eqb x i
      go false e c = refl
      go true e true = ap (λ k. eqb k i) (sym (eqb-true x idle e))
      go true e false =
          let is = eqb-true x idle e in
          ne_eqb (n + y) i (λ same. omega arith) ∙ sym (ne_eqb x i (λ same. omega arith))

  -- of the second's
  pub second-touch : (j : ℕ) → n + j < most_segs → ((x < n) ⊎ (x ≡ idle)) → ((x ≡ idle) ⊎ (y ≡ idle)) → eqb (joint_entry n x y) (n + j)
      ≡ eqb y j
  second-touch j few within one = go (eqb x idle) refl (eqb y idle) refl
    where
      go : (b : Bool) → eqb x idle ≡ b → (c : Bool) → eqb y idle ≡ c → eqb (cond b (cond c idle (n + y)) x) (n + j) ≡ eqb y j
      go true e true f =
          let is = eqb-true y idle f in
          ne_eqb idle (n + j) (λ same. omega arith) ∙ sym (ne_eqb y j (λ same. omega arith))
      go true e false f = moved (eqb y j) refl
        where
          moved : (b : Bool) → eqb y j ≡ b → eqb (n + y) (n + j) ≡ b
          moved true g = eq-eqb (n + y) (n + j) (omega (arith, eqb-true y j g))
          moved false g = ne_eqb (n + y) (n + j) (λ same. eqb-false y j g (omega arith))
      go false e c f =
          let other = eqb-false x idle e in
          let is : y ≡ idle = ⊎_elim (λ l. absurd (other l)) (λ r. r) one in
          let lt : x < n = ⊎_elim (λ l. l) (λ r. absurd (other r)) within in
          ne_eqb x (n + j) (λ same. omega arith) ∙ sym (ne_eqb y j (λ same. omega arith))

  -- and it is a segment or idle
  pub joint-within : (m : ℕ) → ((x < n) ⊎ (x ≡ idle)) → ((y < m) ⊎ (y ≡ idle)) → (joint_entry n x y < n + m) ⊎ (joint_entry n x y ≡ idle)
  joint-within m first second = go (eqb x idle) refl (eqb y idle) refl
    where
      go : (b : Bool) → eqb x idle ≡ b → (c : Bool) → eqb y idle ≡ c
          → (cond b (cond c idle (n + y)) x < n + m) ⊎ (cond b (cond c idle (n + y)) x ≡ idle)
      go true e true f = inr refl
      go true e false f = inl (⊎_elim (λ l. omega arith) (λ r. absurd (eqb-false y idle f r)) second)
      go false e c f = inl (⊎_elim (λ l. omega arith) (λ r. absurd (eqb-false x idle e r)) first)

module _ (v w : SheetValue) where
  pub joint-length : length (joint_refs v w) ≡ joint_steps v w
  unfolding joint_refs
  joint-length =
      length-tabulate (joint_steps v w) (λ t. joint_entry (length v.head.sizes) (get_or v.entries t idle) (get_or w.entries t idle))

  -- the entry of every step, and beyond
  pub joint-entry : (t : ℕ) → get_or (joint_refs v w) t idle ≡ joint_entry (segs (trace_of v)) (entry_of v t) (entry_of w t)
  unfolding joint_refs
  joint-entry t =
      ⊎_elim
      (λ lt. get_or-tabulate (joint_steps v w) (λ s. joint_entry (segs (trace_of v)) (entry_of v s) (entry_of w s)) t idle lt)
      (λ le.
      rw (entry-beyond v t (omega arith), entry-beyond w t (omega arith))
      (get_or-eq_default (joint_refs v w) idle (omega (arith, joint-length))))
      (below-or-beyond t (joint_steps v w))

  -- one of the two entries is idle at every place
  pub one-idle : both_touch v.entries w.entries (joint_steps v w) ≡ false → (t : ℕ) → (entry_of v t ≡ idle) ⊎ (entry_of w t ≡ idle)
  one-idle apart t =
      ⊎_elim (λ lt. not-both v.entries w.entries (joint_steps v w) apart t lt) (λ le. inl (entry-beyond v t (omega arith)))
      (below-or-beyond t (joint_steps v w))
