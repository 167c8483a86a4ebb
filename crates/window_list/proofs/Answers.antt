-- What the call for the windows of a sheet answers, by its tests; and that an accepted sheet is one that the recursion is made for.
use Rattle.std.specs.Prelude.{Result, Ok, Err}
use Rattle.std.specs.Result.{result_and}
use Prim.Native.Nat.{ℕ, zero, suc, ◌<◌}
use mathlib.Core.Path.{◌≡◌, refl, sym, ap, ◌∙◌}
use mathlib.Core.Bool.{Bool, true, false, cond, ◌&&◌, false≢true}
use mathlib.Core.List.{List, [], ◌∷◌}
use native.Mathlib.Omega.{arith}
use lib.Dec.{eqb}
use lib.ListN.{length, get_or}
use borrow.Author.Tests.{eq-eqb, ne_eqb, eqb-true}
use Rattle.model.specs.Places.{PlaceLeft}
use Rattle.model.specs.Sheets.{SheetValue, trace_of, RunWithin}
use Rattle.model.specs.declared.Kind.{Kind}
use Rattle.model.specs.declared.Kind.TheVariants.{Time, Space}
use Rattle.model.specs.declared.Refusal.{Refusal}
use Rattle.model.specs.declared.Refusal.TheVariants.{NotTimeZero}
use Rattle.model.proofs.Places.{refusal-left}
use Rattle.replacement.specs.Answers.{all_ones, ones_verdict}
use Rattle.lru_curve.proofs.Ones.{length-zero, accepted-ones}
use Rattle.windows.specs.Windows.{window_list, window_run, Windowed}
use Rattle.windows.proofs.Windows.{list-wsoccs}
use Rattle.windows.specs.Answers.{time_zero, windows_verdict, wsoccs, windows_for}
use Rattle.model.specs.Refusals.{first_of}

-- accepted, a verdict is no refusal
accepted-not : (why : Refusal) → ◌≡◌ {A = (Result (Unit {0}) Refusal)} (Err why) (Ok tt) → ⊥
accepted-not why e = let z : ◌≡◌ {A = ℕ} (accepted (Err why)) (accepted (Ok tt)) = ap accepted e in omega arith
  where
    accepted : Result (Unit {0}) Refusal → ℕ
    accepted (Ok tt) = 1
    accepted (Err r) = 0

-- the library's `and` gives the first that refuses
pub and-first : (a b : Result (Unit {0}) Refusal) → result_and a b ≡ first_of a b
and-first (Ok u) b = refl
and-first (Err why) b = refl

-- where neither of two verdicts refuses, both accept
both : (a b : Result (Unit {0}) Refusal) → first_of a b ≡ (Ok tt) → (a ≡ (Ok tt)) × (b ≡ (Ok tt))
both (Ok tt) b e = (refl, e)
both (Err why) b e = absurd (accepted-not why e)

-- a run of kind time with a = 0
time-zero : (kind : Kind) (a : ℕ) → time_zero kind a ≡ (Ok tt) → (kind ≡ Time) × (a ≡ 0)
unfolding time_zero
time-zero Space a e = absurd (accepted-not NotTimeZero e)
time-zero Time a e = (refl, go (eqb a 0) refl e)
  where
    go : (b : Bool) → eqb a 0 ≡ b → cond b (Ok (tt {0})) (Err NotTimeZero) ≡ Ok (tt {0}) → a ≡ 0
    go true f g = eqb-true a 0 f
    go false f g = absurd (accepted-not NotTimeZero g)

-- every size is 1
size-one : (l : List ℕ) → all_ones l ≡ true → (i : ℕ) → i < length l → get_or l i 0 ≡ 1
unfolding all_ones
size-one [] e i lt = absurd (omega arith)
size-one (z ∷ zs) e i lt = go (eqb z 1) refl e (size-one zs) i lt
  where
    go : (b : Bool) → eqb z 1 ≡ b → b && all_ones zs ≡ true → (all_ones zs ≡ true → (j : ℕ) → j < length zs → get_or zs j 0 ≡ 1)
        → (j : ℕ) → j < suc (length zs) → get_or (z ∷ zs) j 0 ≡ 1
    go true f g rest zero l = eqb-true z 1 f
    go true f g rest (suc j) l = rest g j (omega arith)
    go false f g rest j l = absurd (false≢true g)

-- the verdict on the kind and a by its tests
pub time-space : (kind : Kind) (a : ℕ) → kind ≡ Space → time_zero kind a ≡ Err NotTimeZero
unfolding time_zero
time-space kind a e = rw e

pub time-weight : (kind : Kind) (a : ℕ) → kind ≡ Time → (a ≡ 0 → ⊥) → time_zero kind a ≡ Err NotTimeZero
unfolding time_zero
time-weight kind a e some = rw (e, ne_eqb a 0 some)

pub time-none : (kind : Kind) (a : ℕ) → kind ≡ Time → a ≡ 0 → time_zero kind a ≡ (Ok tt)
unfolding time_zero
time-none kind a e none = rw (e, eq-eqb a 0 none)

module _ (v : SheetValue) where
  -- refused, nothing is written
  pub windows-refused : (why : Refusal) (place : List ℕ) {answer : (Result ℕ Refusal)} → windows_verdict v.head ≡ Err why
      → answer ≡ Err why → PlaceLeft (windows_for v) place place answer
  unfolding windows_for
  windows-refused why place e n = rw (e, n) (refusal-left why place)

  module _ (e : windows_verdict v.head ≡ (Ok tt)) where
    -- what is known of the head
    asked : (time_zero v.head.kind v.head.a ≡ (Ok tt)) × (ones_verdict v.head.sizes (length v.head.warm) ≡ (Ok tt))
    asked = both (time_zero v.head.kind v.head.a) (ones_verdict v.head.sizes (length v.head.warm)) e

    kind-a : (v.head.kind ≡ Time) × (v.head.a ≡ 0)
    kind-a = time-zero v.head.kind v.head.a asked.0

    ones-cold : (all_ones v.head.sizes ≡ true) × (length v.head.warm ≡ 0)
    ones-cold = accepted-ones v.head.sizes (length v.head.warm) asked.1

    -- so the run of the sheet is the one that the recursion is over
    pub window-run : trace_of v ≡ window_run v.head.sizes v.entries
    window-run =
        let none = length-zero v.head.warm ones-cold.1 in
        rw (kind-a.0, kind-a.1, none)

    -- and the recursion gives wsocc
    pub windowed : Windowed (trace_of v)
    windowed = record { time = kind-a.0; no_weight = kind-a.1; unit_size = λ i lt. size-one v.head.sizes ones-cold.0 i lt }

    pub list_is : window_list (window_run v.head.sizes v.entries) ≡ wsoccs (trace_of v)
    list_is = ap window_list (sym window-run) ∙ list-wsoccs (trace_of v) windowed

    pub windows-within : RunWithin (trace_of v) → RunWithin (window_run v.head.sizes v.entries)
    windows-within r = rw window-run at r

    -- accepted, the list is written
    pub windows-given : {place place' : List ℕ} {answer : (Result ℕ Refusal)}
        → PlaceLeft (Ok (window_list (window_run v.head.sizes v.entries))) place place' answer
        → PlaceLeft (windows_for v) place place' answer
    unfolding windows_for
    windows-given left = rw e (rw list_is at left)
