-- What holds of the misses of least-recently-used replacement of every run of bytes, and of the entries looked at.
use Rattle.std.specs.Prelude.{Result, Ok, Err, IsOk}
use Prim.Native.Nat.{ℕ, suc, ◌-◌, ◌*◌, ◌≤◌}
use mathlib.Core.Path.{◌≡◌, refl, ap, ◌∙◌}
use mathlib.Core.List.{List}
use native.Mathlib.Omega.{arith}
use lib.ListN.{length, get_or}
use Rattle.model.specs.Places.{answer_for}
use Rattle.model.specs.Sheets.{SheetValue, trace_of}
use Rattle.model.specs.Traces.{segs, steps, refs_of}
use Rattle.model.specs.declared.Refusal.{Refusal}
use Rattle.model.proofs.LastTouches.{listed-none}
use Rattle.model.proofs.Tables.{length-tabulate, get_or-tabulate}
use Rattle.sheet.specs.Accepting.{on_sheet}
use Rattle.sheet.specs.Reading.{Outcome, accepted, rejected, read_sheet}
use Rattle.replacement.specs.Demand.{LruDemand}
use Rattle.replacement.specs.Recency.{lru_misses, lru_curve, entries_looked, distinct}
use Rattle.replacement.proofs.Agree.{curves_agree}
use Rattle.replacement.proofs.Demand.{lru-demand}
use Rattle.replacement.specs.Answers.{ones_verdict, ones_for}
use Rattle.lru_curve.proofs.Ones.{every-run}
use Rattle.replacement.specs.Answers.{curve_for, plain_for, looked_for}
use Rattle.analyser.specs.Curves.{lru_result, lru_plain_result, lru_looked}
use Rattle.analyser.specs.LruFromBytes.{Misses, LruFromBytes}
use Rattle.analyser.proofs.GivenLists.{given-after}

-- the two engines have the same for what reading came to
same-on : (o : Outcome) → on_sheet o Err curve_for ≡ on_sheet o Err plain_for
unfolding curve_for plain_for
same-on (accepted v) = ap (λ l. ones_for v.head l) (curves_agree (trace_of v))
same-on (rejected why) = refl

-- what is asked of the definitions holds where every size is 1 and no segment is warm
demand : (v : SheetValue) → ones_verdict v.head.sizes (length v.head.warm) ≡ (Ok tt) → LruDemand (trace_of v)
demand v ones = every-run v LruDemand ones (λ kind a. lru-demand _ listed-none)

module _ (s : List ℕ) (v : SheetValue) (reads : read_sheet s ≡ accepted v) (list : List ℕ) (gave : lru_result s ≡ Ok list) where
  asked : (ones_verdict v.head.sizes (length v.head.warm) ≡ (Ok tt)) × (list ≡ lru_curve (trace_of v))
  unfolding lru_result curve_for
  asked = given-after (ones_verdict v.head.sizes (length v.head.warm)) (lru_curve (trace_of v)) list (rw reads at gave)

  at-frames : (k : ℕ) → 1 ≤ k → k ≤ segs (trace_of v) → get_or list (k - 1) 0 ≡ lru_misses (trace_of v) k
  at-frames k one within =
      let next : suc (k - 1) ≡ k = omega arith in
      ap (λ (l : List ℕ). get_or l (k - 1) 0) asked.1
      ∙ get_or-tabulate (segs (trace_of v)) (λ j. lru_misses (trace_of v) (suc j)) (k - 1) 0 (omega arith)
      ∙ ap (λ (m : ℕ). lru_misses (trace_of v) m) next

  misses-given : Misses v list
  misses-given =
      record {
        verdict = asked.0;
        counted = ap length asked.1 ∙ length-tabulate (segs (trace_of v)) (λ j. lru_misses (trace_of v) (suc j));
        by_distances = at-frames;
        by_simulation = λ k one within. at-frames k one within ∙ (demand v asked.0).agree k;
        demand = demand v asked.0;
        falls = λ k m one le within. omega
            (arith, at-frames k one (omega arith), at-frames m (omega arith) within, (demand v asked.0).falls k m le);
        least = λ k one enough within. at-frames k one within ∙ (demand v asked.0).least k enough;
      }

-- the entries looked at: those of the definition, or none
looked-on : (v : SheetValue) (w : Result ℕ Refusal) → IsOk w → looked_for v w ≡ entries_looked (trace_of v)
looked-on v (Ok n) e = refl
looked-on v (Err why) e = absurd (let z : ◌≡◌ {A = ℕ} 0 1 = cc in omega arith)

none-on : (o : Outcome) (place : List ℕ) (why : Refusal) → answer_for (on_sheet o Err curve_for) place ≡ Err why
    → on_sheet o (λ q. 0) (λ v. looked_for v (answer_for (curve_for v) place)) ≡ 0
none-on (accepted v) place why e = rw e
none-on (rejected q) place why e = refl

bounded-on : (v : SheetValue) (place : List ℕ)
    → looked_for v (answer_for (curve_for v) place) ≤ refs_of (trace_of v) * distinct (trace_of v) (steps (trace_of v))
unfolding curve_for
bounded-on v place = go (ones_verdict v.head.sizes (length v.head.warm)) refl
  where
    at : LruDemand (trace_of v) → (w : Result ℕ Refusal)
        → looked_for v w ≤ refs_of (trace_of v) * distinct (trace_of v) (steps (trace_of v))
    at d (Ok n) = d.bounded
    at d (Err why) = omega arith

    go : (w : Result (Unit {0}) Refusal) → ones_verdict v.head.sizes (length v.head.warm) ≡ w
        → looked_for v (answer_for (curve_for v) place) ≤ refs_of (trace_of v) * distinct (trace_of v) (steps (trace_of v))
    go (Ok u) e = at (demand v e) (answer_for (curve_for v) place)
    go (Err why) e = rw e (omega arith)

pub lru-from-bytes : (s : List ℕ) → LruFromBytes s
unfolding lru_result lru_plain_result lru_looked
lru-from-bytes s =
    record {
      same = same-on (read_sheet s);
      misses = misses-given s;
      looked = λ v reads place fits. rw reads (looked-on v (answer_for (curve_for v) place) (rw reads at fits));
      none_looked = λ why place e. none-on (read_sheet s) place why e;
      bounded = λ v reads place. rw reads (bounded-on v place);
    }
