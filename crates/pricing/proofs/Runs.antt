-- Passing the segments of a word: a run of bits that did not change, then one that did, and so on to the end of the word.
use Prim.Native.Nat.{ℕ, suc, ◌+◌, ◌-◌, ◌/◌, ◌^◌, ◌≤◌, ◌<◌}
use mathlib.Core.Path.{◌≡◌, ap, sym, ◌∙◌}
use mathlib.Core.Bool.{true, false, cond, not}
use Rattle.std.specs.Prelude.{Option}
use mathlib.Core.List.{List}
use native.Mathlib.Omega.{arith}
use native.Mathlib.Numerals.{add-one}
use lib.Bits.{bit_xor, xor_lt}
use lib.Count.{count_trailing_zeros, trailing_of_zero}
use lib.ListN.{get_or}
use lib.Pow.{pow_mono, shr_lt, shr-shr}
use Rattle.model.specs.Traces.{Trace, segs, steps}
use Rattle.model.specs.Schedules.{bit, held}
use Rattle.model.specs.Pricing.{enters, some_enters}
use Rattle.schedule.specs.inner.Segments.{segment_of}
use Rattle.pricing.specs.inner.Held.{held_of}
use Rattle.pricing.specs.inner.Steps.{Step}
use Rattle.pricing.specs.inner.Passing.{unit_at, SegmentsPassed, enters_by}
use Rattle.pricing.proofs.Changing.{held-of, passed-one, passed-run, some-enters, enters-turned, leaves-turned}
use Rattle.pricing.proofs.Words.{bit_shifted, same-below, other_at, lowest-below}

-- w has the bits of step t for the segments i to e - 1, and no others
pub record Rest (T : Trace) (p : List ℕ) (t i e w : ℕ) : Type 0 where
  pub below : w < 2 ^ (e - i)
  pub bits : (k : ℕ) → i + k < e → bit w k ≡ held T p t (i + k)

-- a whole word
pub rest-start : (T : Trace) (start p : List ℕ) (s : ℕ) → Step T start p s → (t i w : ℕ) → i + 64 ≤ 256 → w < 2 ^ 64
    → ((k : ℕ) → k < 64 → bit w k ≡ held_of start p t (i + k)) → Rest T p t i (i + 64) w
rest-start T start p s ok t i w few lt bits =
    let span : i + 64 - i ≡ 64 = omega arith in
    record { below = rw span lt; bits = λ k l. bits k (omega arith) ∙ sym (held-of T start p s ok t (i + k) (omega arith)) }

-- after s bits and one more
pub rest-shift : (T : Trace) (p : List ℕ) (t i e w s : ℕ) → i + s < e → Rest T p t i e w → Rest T p t (i + s + 1) e (w / 2 ^ s / 2)
rest-shift T p t i e w s lt r =
    let span : e - i ≡ (e - (i + s + 1)) + (s + 1) = omega arith in
    record {
      below = rw (shr-shr w s 1) (shr_lt (e - (i + s + 1)) (s + 1) (rw span at r.below));
      bits = λ k l.
          let place : i + (s + (1 + k)) ≡ i + s + 1 + k = omega arith in
          bit_shifted (w / 2 ^ s) 1 k ∙ bit_shifted w s (1 + k) ∙ r.bits (s + (1 + k)) (omega arith) ∙ ap (held T p t) place;
    }

-- a number of few bits has at most 64
narrow : (m w : ℕ) → w < 2 ^ m → m ≤ 64 → w < 2 ^ 64
narrow m w lt le = omega (arith, pow_mono le)

module _ (T : Trace) (p : List ℕ) (t : ℕ) where
  -- the segments before i are passed; old and new have the bits of the others up to e - 1 in the step before and in this step
  pub record Passes (e i old new left : ℕ) : Type 0 where
    pub within : i ≤ e
    pub close : e ≤ i + 64
    pub before : Rest T p t i e old
    pub after : Rest T p (suc t) i e new
    pub passed : SegmentsPassed T p t i left

  -- a bit that is the same in both is held as in the step before
  same-held : (e i old new k left : ℕ) → Passes e i old new left → i + k < e → bit old k ≡ bit new k
      → held T p (suc t) (i + k) ≡ held T p t (i + k)
  same-held e i old new k left r lt same = sym (r.after.bits k lt) ∙ sym same ∙ r.before.bits k lt

  -- where the bits differ, the first that does stands before e
  pub differs-below : (e i old new left : ℕ) → Passes e i old new left → (bit_xor old new ≡ 0 → ⊥)
      → i + count_trailing_zeros 64 (bit_xor old new) < e
  differs-below e i old new left r ne =
      let pos : 0 < bit_xor old new = omega (arith, ne) in
      omega (
        arith,
        lowest-below 64 (bit_xor old new) (e - i) pos (xor_lt (e - i) old new r.before.below r.after.below) (omega arith),
      )

  -- there, one has what the other has not
  turned : (e i old new s left : ℕ) → Passes e i old new left → (bit_xor old new ≡ 0 → ⊥)
      → s ≡ count_trailing_zeros 64 (bit_xor old new) → bit new s ≡ not (bit old s)
  turned e i old new s left r ne first =
      rw first
      (other_at 64 old new (omega (arith, ne))
      (xor_lt 64 old new (narrow (e - i) old r.before.below (omega (arith, r.close)))
      (narrow (e - i) new r.after.below (omega (arith, r.close)))))

  -- the run up to that bit, and the bit
  module _ (e i old new s left : ℕ) (place : t < steps T) (w : Passes e i old new left) (ne : bit_xor old new ≡ 0 → ⊥) (few : e ≤ 256)
      (first : s ≡ count_trailing_zeros 64 (bit_xor old new)) (touched : Option ℕ)
      (is : touched ≡ segment_of (segs T) (get_or T.entries t 0)) where
    below : i + s < e
    below = rw first (differs-below e i old new left w ne)

    enters-by : enters T p t (i + s) ≡ enters_by (bit old s) touched (i + s)
    enters-by =
        enters-turned T p t (i + s) (bit old s) (bit new s) (omega (arith, below)) place (w.before.bits s below) (w.after.bits s below)
        (turned e i old new s left w ne first) touched is

    -- it enters
    pub passes-enters : enters_by (bit old s) touched (i + s) ≡ true → some_enters T p t 256 ≡ true
    passes-enters one = some-enters T p t 256 (i + s) (omega (arith, below)) (enters-by ∙ one)

    -- it does not
    pub passes_on : (r : ℕ)
        → (enters_by (bit old s) touched (i + s) ≡ false) × (r ≡ left + cond (bit old s) (unit_at T.kind T.sizes (i + s)) 0)
        → Passes e (i + s + 1) (old / 2 ^ s / 2) (new / 2 ^ s / 2) r
    passes_on r one =
        let run : SegmentsPassed T p t (i + s) left =
        passed-run T p t s i left w.passed
        (λ j l. same-held e i old new j left w (omega (arith, below)) (same-below 64 old new j (omega (arith, first)))) in
        let leaves =
        leaves-turned T p t (i + s) (bit old s) (bit new s) (omega (arith, below)) place (w.before.bits s below) (w.after.bits s below)
        (turned e i old new s left w ne first) touched is (unit_at T.kind T.sizes (i + s)) in
        record {
          within = omega (arith, below);
          close = omega (arith, w.close);
          before = rest-shift T p t i e old s below w.before;
          after = rest-shift T p (suc t) i e new s below w.after;
          passed = rw (add-one (i + s)) (passed-one T p t (i + s) left r run (enters-by ∙ one.0) (rw leaves one.1));
        }

  -- where the bits are the same, the rest is one run
  pub passes-end : (e i old new left : ℕ) → Passes e i old new left → bit_xor old new ≡ 0 → SegmentsPassed T p t e left
  passes-end e i old new left w none =
      let all : i + (e - i) ≡ e = omega (arith, w.within) in
      rw all at (passed-run T p t (e - i) i left w.passed
      (λ j l. same-held e i old new j left w (omega arith)
      (same-below 64 old new j (rw (none, trailing_of_zero 64) (omega (arith, w.close))))))
