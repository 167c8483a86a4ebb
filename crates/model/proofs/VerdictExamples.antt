-- The numbers of schedules of a run with a warm segment and of one without, computed from the definitions.
use Rattle.std.specs.Prelude.{Ok, Err}
use Prim.Native.Nat.{ℕ}
use mathlib.Core.Path.{◌≡◌, refl}
use mathlib.Core.List.{List, [], ◌∷◌, ◌++◌, map}
use lib.ListN.{replicate}
use Rattle.model.specs.Refusals.{verdict_number}
use Rattle.model.specs.Sheets.{listed, run_of, idle}
use Rattle.model.specs.Schedules.{held}
use Rattle.model.specs.Traces.{Trace}
use Rattle.model.specs.declared.Kind.TheVariants.{Time}
use Rattle.model.specs.declared.Refusal.TheVariants.{HeldNotBefore}
use Rattle.model.specs.Pricing.{missing, enters, some_enters, step_verdict, steps_verdict}
use Rattle.model.specs.Pricing.{schedule_verdict}

-- two segments, of which 0 is warm; steps 1 and 2 touch nothing
abbrev run : Trace
run = run_of Time 0 (1 ∷ 1 ∷ []) (0 ∷ []) (idle ∷ idle ∷ [])

-- the bytes of two steps, each given by its first
abbrev steps : ℕ → ℕ → List ℕ
steps x y = (x ∷ replicate 31 0) ++ (y ∷ replicate 31 0)

-- a warm segment may be held from step 1 on
pub held_on : schedule_verdict run (steps 1 1) ≡ Ok tt
unfolding schedule_verdict steps_verdict step_verdict missing some_enters enters held listed
held_on = refl

-- dropped in step 1, it does not come back untouched
pub comes_back : schedule_verdict run (steps 0 1) ≡ Err HeldNotBefore
unfolding schedule_verdict steps_verdict step_verdict missing some_enters enters held listed
comes_back = refl

-- a segment that is not warm is not held untouched in step 1
pub cold-held : schedule_verdict run (steps 2 0) ≡ Err HeldNotBefore
unfolding schedule_verdict steps_verdict step_verdict missing some_enters enters held listed
cold-held = refl

-- the same segments, none warm, with touches of 0 and of 1
abbrev touching : Trace
touching = run_of Time 0 (1 ∷ 1 ∷ []) [] (0 ∷ 1 ∷ [])

number_on : List ℕ → ℕ
number_on p = verdict_number (schedule_verdict touching p)

-- two permitted ones; a byte more and a byte less (8); step 1 without its touch (9), also where segment 1 enters there (9 before 10);
-- segment 1 in step 1 beside the touch (10), also before a step 2 without its touch (the earliest faulty step decides); step 2 without its
-- touch (9), and with segment 2 beside it, which the sheet does not have (10)
numbers : map number_on
    (steps 1 2 ∷ steps 1 3 ∷ (0 ∷ steps 1 2) ∷ (1 ∷ replicate 62 0) ∷ steps 0 2 ∷ steps 2 2 ∷ steps 3 2 ∷ steps 3 0 ∷ steps 1 1
    ∷ steps 1 6 ∷ [])
    ≡ 0 ∷ 0 ∷ 8 ∷ 8 ∷ 9 ∷ 9 ∷ 10 ∷ 10 ∷ 9 ∷ 10 ∷ []
unfolding number_on schedule_verdict steps_verdict step_verdict missing some_enters enters held listed
numbers = refl
