-- The costs before the first step, and that the costs of all steps are the schedule's.
use Rattle.std.specs.Prelude.{Ok}
use Prim.Native.Nat.{ℕ, suc, ◌+◌, ◌*◌, ◌<◌, ◌^◌}
use mathlib.Core.Path.{◌≡◌, refl, sym, ◌∙◌}
use mathlib.Core.Bool.{Bool, true, false, cond, not, ◌&&◌, false≢true}
use mathlib.Core.List.{List}
use native.Mathlib.Omega.{arith}
use lib.ListN.{length}
use Rattle.model.specs.Costs.{total_cost}
use Rattle.model.specs.Traces.{Trace, segs, steps, unit_of, swap_of, touched, touching, over_segments}
use Rattle.model.specs.Figures.{ref_cost}
use Rattle.model.specs.Schedules.{held, Permitted, schedule_memory, schedule_load, schedule_total}
use Rattle.model.specs.Sheets.{RunWithin, listed}
use Rattle.model.specs.declared.MemoryUnits.{MemoryUnits}
use Rattle.model.proofs.Sums.{sum-none, sum-eq, sum-add}
use Rattle.model.proofs.Touches.{touching-sum}
use Rattle.model.specs.Pricing.{schedule_verdict}
use Rattle.pricing.specs.inner.Prices.{price_answer}
use Rattle.pricing.specs.inner.StartCost.{start_cost}
use Rattle.pricing.specs.declared.step_price.Costs.{Costs}
use Rattle.model.specs.Pricing.{steps_verdict}
use Rattle.pricing.specs.inner.Steps.{held_cost, memory_through, load_through, Through}
use Rattle.pricing.proofs.StepCosts.{memory-within, load_within}
use Rattle.pricing.proofs.Verdicts.{accepted-permitted, whole-verdict, accepted-answer, priced}

-- before the first step: what is held is the start set
pub through-none : (T : Trace) (p warm : List ℕ) (c : MemoryUnits) → ((i : ℕ) → T.start i ≡ listed warm i)
    → c.0 ≡ start_cost T.kind T.sizes warm
    → Through T p 0 (record { held = c; memory = record { 0 = 0 }; load = record { 0 = 0 } })
unfolding steps_verdict held_cost memory_through load_through held start_cost
through-none T p warm c same e =
    record {
      accepted = refl;
      held-cost =
          e
          ∙ sum-eq (segs T) (λ i. cond (listed warm i) (unit_of T i) 0) (λ i. cond (T.start i) (unit_of T i) 0) (λ i l. rw (same i));
      memory_cost = sym (sum-none (λ t. held_cost T p (suc t)));
      load_cost = sym (sum-none (touching T (λ t i. cond (held T p t i) 0 (swap_of T i))));
    }

-- the same segment costs u in a step where it is held, touched or not
both : (new m : Bool) (u : ℕ) → (m ≡ true → new ≡ true) → cond new u 0 ≡ cond m u 0 + cond (new && not m) u 0
both false true u must = absurd (false≢true (must refl))
both true true u must = omega arith
both true false u must = omega arith
both false false u must = refl

-- a step of a permitted schedule: the touched segment and the held untouched ones
step-held : (T : Trace) (p : List ℕ) → Permitted T p → (t : ℕ) → t < steps T
    → touching T (λ t i. unit_of T i) t + over_segments T (λ i. cond (held T p (suc t) i && not (touched T t i)) (unit_of T i) 0)
    ≡ held_cost T p (suc t)
unfolding held_cost
step-held T p ok t lt =
    let touch : ℕ → ℕ = λ i. cond (touched T t i) (unit_of T i) 0 in
    let kept : ℕ → ℕ = λ i. cond (held T p (suc t) i && not (touched T t i)) (unit_of T i) 0 in
    omega (
      arith,
      touching-sum T (λ t i. unit_of T i) t,
      sum-add (segs T) touch kept,
      sum-eq (segs T) (λ i. cond (held T p (suc t) i) (unit_of T i) 0) (λ i. touch i + kept i)
          (λ i l. both (held T p (suc t) i) (touched T t i) (unit_of T i) (ok.touched_held t i lt)),
    )

-- memory of a permitted schedule is the cost of what is held in each step
memory-held : (T : Trace) (p : List ℕ) → Permitted T p → schedule_memory T p ≡ memory_through T p (steps T)
unfolding schedule_memory ref_cost memory_through
memory-held T p ok =
    let touch : ℕ → ℕ = touching T (λ t i. unit_of T i) in
    let kept : ℕ → ℕ = λ t. over_segments T (λ i. cond (held T p (suc t) i && not (touched T t i)) (unit_of T i) 0) in
    sym (sum-add (steps T) touch kept)
    ∙ sum-eq (steps T) (λ t. touch t + kept t) (λ t. held_cost T p (suc t)) (λ t lt. step-held T p ok t lt)

-- memory and load of a permitted schedule are within 40 bits
pub schedule-within : (T : Trace) → RunWithin T → (p : List ℕ) → Permitted T p
    → (schedule_memory T p < 2 ^ 40) × (schedule_load T p < 2 ^ 40)
unfolding schedule_load load_through
schedule-within T ok p allowed = (
  rw (memory-held T p allowed) (memory-within T ok p (steps T) ok.steps_within),
  load_within T ok p (steps T) ok.steps_within,
)

-- the costs of all steps are the schedule's
pub through-all : (T : Trace) (p : List ℕ) (h d n total : ℕ) (c : Costs) → length p ≡ 32 * steps T → Through T p n c → n ≡ steps T
    → total ≡ total_cost h d c.memory.0 c.load.0 → priced c.memory.0 c.load.0 total ≡ price_answer T h d p
unfolding schedule_total schedule_load load_through
through-all T p h d n total c whole done all e =
    let accepted : schedule_verdict T p ≡ (Ok tt) = whole-verdict T p whole ∙ (rw all at done.accepted) in
    let memory : c.memory.0 ≡ schedule_memory T p =
    (rw all at done.memory_cost) ∙ sym (memory-held T p (accepted-permitted T p accepted)) in
    let load : c.load.0 ≡ schedule_load T p = rw all at done.load_cost in
    sym (accepted-answer T h d p accepted ∙ rw (e, memory, load))
