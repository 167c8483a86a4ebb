-- The pass over a schedule's touches: the flags of the segments and the load of the stores so far, its start, a step more and its end.
use Prim.Native.Nat.{ℕ, zero, suc, ◌+◌, ◌-◌, ◌*◌, ◌/◌, ◌%◌, ◌^◌, ◌≤◌, ◌<◌}
use mathlib.Core.Path.{◌≡◌, refl, sym, ap, ◌∙◌}
use mathlib.Core.Bool.{Bool, true, false, cond, not, ◌&&◌, ◌||◌, and-false}
use mathlib.Core.List.{List}
use native.Mathlib.Omega.{arith}
use native.Mathlib.Numerals.{add-one}
use lib.Dec.{eqb}
use lib.ListN.{length, get_or, set, replicate, length-set, length-replicate, get_or-replicate}
use lib.Seq.{get_or-set_same, get_or-set_other}
use borrow.Author.Tests.{eqb-true, eqb-false}
use Rattle.model.specs.Costs.{swap_cost}
use Rattle.model.specs.Schedules.{bit, held, Permitted}
use Rattle.model.specs.Sums.{sum}
use Rattle.model.specs.Traces.{Trace, segs, steps, entry, touched, touching, swap_of}
use Rattle.model.proofs.Bounds.{swap_within}
use Rattle.model.proofs.Loads.{over_touches-eq}
use Rattle.model.proofs.Sums.{sum-suc, sum-none}
use Rattle.model.proofs.Touches.{touched-at, touched-is, idle-touched, entry-ref, touching_at, touching-idle}
use Rattle.stores.specs.Stays.{stores_of}
use Rattle.stores.specs.inner.Flags.{modified_flag}
use Rattle.stores.specs.inner.Marks.{dirty, stores_at_marks}
use Rattle.stores.proofs.Flags.{dirty-flag}
use Rattle.stores.proofs.Stays.{stays-marks}
use Rattle.store_plan.specs.inner.Passing.{held_after, SizedAs}

-- what is held after some steps stands in the bytes of the last of them
pub held-last : (p : List ℕ) (n i : ℕ) → (n ≡ 0 → ⊥) → bit (get_or p (32 * (n - 1) + i / 8) 0) (i % 8) ≡ held_after p n i
unfolding held_after
held-last p zero i some = absurd (some refl)
held-last p (suc t) i some =
    let last : suc t - 1 ≡ t = omega arith in
    rw last

module _ (T : Trace) (marks : ℕ → Bool) (p : List ℕ) where
  -- the flag of segment i after t steps, and whether a touch then finds it held and modified
  abbrev flag_of : ℕ → ℕ → Bool
  flag_of t i = modified_flag T marks (held_after p) t i

  abbrev modified_of : ℕ → ℕ → Bool
  modified_of t i = held_after p t i && flag_of t i

  -- what a touch stores, and the first n steps
  abbrev stored_at : ℕ → ℕ → ℕ
  stored_at t i = cond (marks t && not (modified_of t i)) (swap_of T i) 0

  abbrev stored_by : ℕ → ℕ
  stored_by n = sum n (touching T stored_at)

  -- before step 1 no segment is modified, so that it is of no account which is held then
  flag_same : (t i : ℕ)
      → (modified_flag T marks (held T p) t i ≡ flag_of t i) × (held T p t i && modified_flag T marks (held T p) t i ≡ modified_of t i)
  unfolding modified_flag held_after held
  flag_same zero i = (refl, and-false (T.start i))
  flag_same (suc t) i =
      let before = flag_same t i in
      let flags : modified_flag T marks (held T p) (suc t) i ≡ flag_of (suc t) i = rw (before.1, before.0) in
      (flags, ap (λ b. held_after p (suc t) i && b) flags)

  -- of a permitted schedule, what the touches store are its stores
  stores-are : Permitted T p → segs T ≤ 256 → stores_of T marks (held T p) ≡ stored_by (steps T)
  unfolding stores_at_marks
  stores-are ok few =
      stays-marks T marks p ok
      ∙ over_touches-eq T (λ t i. cond (marks t && not (dirty T marks (held T p) t i)) (swap_of T i) 0) stored_at
      (λ t i lt l m. ap (λ b. cond (marks t && not b) (swap_of T i) 0)
      (dirty-flag T marks (held T p) i (λ t lt. ok.others_stay t i lt (omega arith)) t (omega arith) ∙ (flag_same t i).1))

-- after t steps: the flags of the segments, and the load of the stores so far
pub record Stored (T : Trace) (marks : ℕ → Bool) (p : List ℕ) (flags : List Bool) (load t : ℕ) : Type 0 where
  pub flags_are : (i : ℕ) → i < 256 → get_or flags i false ≡ flag_of T marks p t i
  pub load_is : load ≡ stored_by T marks p t

module _ (T : Trace) (marks : ℕ → Bool) (p : List ℕ) where
  stored_start : Stored T marks p (replicate 256 false) 0 0
  unfolding modified_flag
  stored_start =
      record {
        flags_are = λ i lt. get_or-replicate 256 i false false lt;
        load_is = sym (sum-none (touching T (stored_at T marks p)));
      }

  module _ (flags : List Bool) (load t : ℕ) (v : Stored T marks p flags load t) where
    more : stored_by T marks p (suc t) ≡ stored_by T marks p t + touching T (stored_at T marks p) t
    more = sum-suc t (touching T (stored_at T marks p))

    flag_step : (i : ℕ) → flag_of T marks p (suc t) i ≡ cond (touched T t i) (marks t || modified_of T marks p t i) (flag_of T marks p t i)
    unfolding modified_flag
    flag_step i = refl

    -- a touch of segment i: m says whether it finds that held and modified, x is what it stores, f the flag after it
    stored_touch : (i x : ℕ) (m f : Bool) → length flags ≡ 256 → i < 256 → entry T t ≡ i → i < segs T
        → m ≡ held_after p t i && get_or flags i false → x ≡ cond (marks t && not m) (swap_of T i) 0 → f ≡ marks t || m
        → Stored T marks p (set flags i f) (load + x) (t + 1)
    stored_touch i x m f whole few e li em ex ef =
        record {
          flags_are = λ k l. rw (add-one t) (go k l (eqb i k) refl);
          load_is = rw (add-one t) (omega (arith, v.load_is, more, here, ex ∙ ap (λ b. cond (marks t && not b) (swap_of T i) 0) found));
        }
      where
        found : m ≡ modified_of T marks p t i
        found = em ∙ ap (λ b. held_after p t i && b) (v.flags_are i few)

        here : touching T (stored_at T marks p) t ≡ stored_at T marks p t i
        here = rw e at (touching_at T (stored_at T marks p) t (omega (arith, e)))

        touch_is : touched T t i ≡ true
        touch_is = rw (← e) (touched-at T t (omega (arith, e)))

        go : (k : ℕ) → k < 256 → (b : Bool) → eqb i k ≡ b → get_or (set flags i f) k false ≡ flag_of T marks p (suc t) k
        go k l true same =
            rw (← eqb-true i k same) (get_or-set_same flags i f false (omega arith) ∙ ef ∙ rw found (sym (flag_step i ∙ rw touch_is)))
        go k l false same =
            let other = eqb-false i k same in
            get_or-set_other flags i k f false (λ z. other (sym z))
            ∙ v.flags_are k l
            ∙ sym (flag_step k ∙ rw (touched-is T t k (omega (arith, e)), e, same))

    -- a step without a touch
    stored_idle : segs T ≤ entry T t → Stored T marks p flags load (t + 1)
    stored_idle idle =
        record {
          flags_are = λ k l. rw (add-one t) (v.flags_are k l ∙ sym (flag_step k ∙ rw (idle-touched T t k idle)));
          load_is = rw (add-one t) (omega (arith, v.load_is, more, touching-idle T (stored_at T marks p) t idle));
        }

-- the same of every run with these sizes and references, as the loop goes
pub record Storing (a : ℕ) (sizes refs : List ℕ) (marks : ℕ → Bool) (p : List ℕ) (flags : List Bool) (load t : ℕ) : Type 0 where
  pub within : t ≤ length refs
  pub flags_whole : length flags ≡ 256
  pub load_within : load ≤ t * 2 ^ 32
  pub stored_of : (T : Trace) → SizedAs T a sizes refs → Stored T marks p flags load t

module _ (a : ℕ) (sizes refs : List ℕ) (marks : ℕ → Bool) (p : List ℕ) (few : length sizes ≤ 256) (short : length refs ≤ 2048) where
  pub storing_start : (flags : List Bool) → flags ≡ replicate 256 false → Storing a sizes refs marks p flags 0 0
  storing_start flags e =
      record {
        within = omega arith;
        flags_whole = rw e (length-replicate 256 false);
        load_within = omega arith;
        stored_of = λ T is. rw (← e) at (stored_start T marks p);
      }

  -- of one such run
  module _ (T : Trace) (is : SizedAs T a sizes refs) where
    segs_is : segs T ≡ length sizes
    segs_is = ap length is.sizes_are

    steps_is : steps T ≡ length refs
    steps_is = ap length is.refs_are

    entry_is : (t : ℕ) → t < length refs → entry T t ≡ get_or refs t 0
    entry_is t lt = entry-ref T t (omega (arith, steps_is)) ∙ ap (λ (l : List ℕ). get_or l t 0) is.refs_are

    swap_is : (i : ℕ) → swap_of T i ≡ swap_cost a (get_or sizes i 0)
    swap_is i = ap (λ (b : ℕ). swap_cost b (get_or T.sizes i 0)) is.a_is ∙ ap (λ (l : List ℕ). swap_cost a (get_or l i 0)) is.sizes_are

  module _ (flags : List Bool) (load t : ℕ) (v : Storing a sizes refs marks p flags load t) (lt : t < length refs) where
    -- a touch of segment i
    pub storing_touch : (i x : ℕ) (m f : Bool) → i ≡ get_or refs t 0 → i < length sizes → a < 2 ^ 8 → get_or sizes i 0 < 2 ^ 16
        → m ≡ held_after p t i && get_or flags i false → x ≡ cond (marks t && not m) (swap_cost a (get_or sizes i 0)) 0 → f ≡ marks t || m
        → Storing a sizes refs marks p (set flags i f) (load + x) (t + 1)
    storing_touch i x m f ei li la lz em ex ef =
        record {
          within = omega arith;
          flags_whole = length-set flags i f ∙ v.flags_whole;
          load_within = omega (arith, v.load_within, ex, within (marks t && not m));
          stored_of = λ T is.
              stored_touch T marks p flags load t (v.stored_of T is) i x m f v.flags_whole (omega arith)
              (entry_is T is t lt ∙ sym ei) (omega (arith, segs_is T is)) em
              (ex ∙ ap (λ (w : ℕ). cond (marks t && not m) w 0) (sym (swap_is T is i))) ef;
        }
      where
        within : (b : Bool) → cond b (swap_cost a (get_or sizes i 0)) 0 ≤ 2 ^ 32
        within true = omega (arith, swap_within a (get_or sizes i 0) la lz)
        within false = omega arith

    -- a step without a touch
    pub storing_idle : length sizes ≤ get_or refs t 0 → Storing a sizes refs marks p flags load (t + 1)
    storing_idle idle =
        record {
          within = omega arith;
          flags_whole = v.flags_whole;
          load_within = omega (arith, v.load_within);
          stored_of = λ T is.
              stored_idle T marks p flags load t (v.stored_of T is) (omega (arith, segs_is T is, entry_is T is t lt));
        }

  pub storing_end : (flags : List Bool) (load t : ℕ) → Storing a sizes refs marks p flags load t → length refs ≤ t
      → (T : Trace) → SizedAs T a sizes refs → Permitted T p → load ≡ stores_of T marks (held T p)
  storing_end flags load t v le T is ok =
      let done : t ≡ steps T = omega (arith, v.within, steps_is T is) in
      rw done at (v.stored_of T is).load_is ∙ sym (stores-are T marks p ok (omega (arith, segs_is T is)))
