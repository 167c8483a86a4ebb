-- The stores by stays are those at the ends of stays, and of a permitted schedule those at the first modifying touch of each: a method
-- that goes through the steps counts what the request's sentence says.
use Prim.Native.Nat.{ℕ, zero, suc, ◌+◌, ◌≤◌, ◌<◌}
use mathlib.Core.Path.{◌≡◌, refl, sym, ◌∙◌}
use mathlib.Core.Logic.{⊎_elim}
use mathlib.Core.Bool.{Bool, true, false, cond, not, ◌&&◌, ◌||◌, and-true, and-false}
use mathlib.Core.List.{List}
use native.Mathlib.Omega.{arith}
use lib.Dec.{leb, ltb}
use borrow.Author.Tests.{lt-ltb, le-ltb, le-leb, lt-leb}
use Rattle.model.specs.Costs.{total_cost}
use Rattle.model.specs.Schedules.{held, Permitted, schedule_memory, schedule_load}
use Rattle.model.specs.Sums.{sum}
use Rattle.model.specs.Traces.{Trace, segs, steps, swap_of}
use Rattle.model.proofs.LowerBound.{memory_of, load_of}
use Rattle.model.proofs.Sums.{sum-suc, sum-eq, sum-add, sum-zero, last-or-below}
use Rattle.stores.specs.Stays.{all, any, every_step, some_step, held_before, held_after, is_stay, modifies, modifies_in, is_modified_stay}
use Rattle.stores.specs.Stays.{stores_of, marked_load, marked_total}
use Rattle.stores.specs.inner.Marks.{dirty, stores_at_marks, stores_at_ends}
use Rattle.stores.proofs.Ends.{stores-ends}

-- a double sum in the other order
sum-swap : (n m : ℕ) (f : ℕ → ℕ → ℕ) → sum n (λ a. sum m (λ b. f a b)) ≡ sum m (λ b. sum n (λ a. f a b))
unfolding sum
sum-swap zero m f = sym (sum-zero m (λ b. 0) (λ b l. refl))
sum-swap (suc n) m f =
    omega (arith, sum-swap n m f, sum-add m (λ b. sum n (λ a. f a b)) (λ b. f n b))

-- a sum whose terms from place n on are 0
sum-front : (m n : ℕ) (f : ℕ → ℕ) → n ≤ m → ((t : ℕ) → n ≤ t → f t ≡ 0) → sum m f ≡ sum n f
unfolding sum
sum-front zero n f le none =
    let empty : n ≡ 0 = omega arith in
    rw empty
sum-front (suc m) n f le none =
    ⊎_elim
    (λ e. rw e)
    (λ l. omega (arith, sum-front m n f (omega arith) none, none m (omega arith)))
    (last-or-below (suc m) n (omega arith))

-- a sum of w where f t holds and b does
sum-where : (w n : ℕ) (b : Bool) (f : ℕ → Bool) → sum n (λ t. cond (f t && b) w 0) ≡ cond b (sum n (λ t. cond (f t) w 0)) 0
sum-where w n true f = sum-eq n (λ t. cond (f t && true) w 0) (λ t. cond (f t) w 0) (λ t l. rw (and-true (f t)))
sum-where w n false f = sum-zero n (λ t. cond (f t && false) w 0) (λ t l. rw (and-false (f t)))

pub all_true : (n : ℕ) (f : ℕ → Bool) → ((t : ℕ) → t < n → f t ≡ true) → all n f ≡ true
unfolding all
all_true zero f each = refl
all_true (suc n) f each = rw (all_true n f (λ t l. each t (omega arith)), each n (omega arith))

any_false : (n : ℕ) (f : ℕ → Bool) → ((t : ℕ) → t < n → f t ≡ false) → any n f ≡ false
unfolding any
any_false zero f none = refl
any_false (suc n) f none = rw (any_false n f (λ t l. none t (omega arith)), none n (omega arith))

-- a step more of what holds from `first` on, and that step alone
every_more : (first l : ℕ) (f : ℕ → Bool) → first ≤ l → every_step first (suc l) f ≡ every_step first l f && f (suc l)
unfolding every_step all
every_more first l f le = rw (le-ltb (suc l) first (omega arith))

every-alone : (l : ℕ) (f : ℕ → Bool) → every_step l l f ≡ f l
unfolding every_step all
every-alone l f = rw (all_true l (λ t. ltb t l || f t) (λ t lt. rw (lt-ltb t l lt)), le-ltb l l (omega arith))

some_more : (first l : ℕ) (f : ℕ → Bool) → first ≤ l → some_step first (suc l) f ≡ some_step first l f || f (suc l)
unfolding some_step any
some_more first l f le = rw (le-leb first (suc l) (omega arith))

some_alone : (l : ℕ) (f : ℕ → Bool) → some_step l l f ≡ f l
unfolding some_step any
some_alone l f = rw (any_false l (λ t. leb l t && f t) (λ t lt. rw (lt-leb l t lt)), le-leb l l (omega arith))

module _ (T : Trace) (marks : ℕ → Bool) (S : ℕ → ℕ → Bool) (i w : ℕ) where
  -- a stay that began in step `first` is still held in step l; it has had a modifying touch
  abbrev begun : ℕ → ℕ → Bool
  begun first l = leb first l && (every_step first l (λ t. S t i) && not (held_before S i first))

  abbrev begun_modified : ℕ → ℕ → Bool
  begun_modified first l = begun first l && some_step first l (modifies_in T marks i)

  begun_more : (first l : ℕ) → first ≤ l → begun first (suc l) ≡ begun first l && S (suc l) i
  begun_more first l le =
      rw (le-leb first (suc l) (omega arith), le-leb first l le, every_more first l (λ t. S t i) le)
      (go (every_step first l (λ t. S t i)) (S (suc l) i) (not (held_before S i first)))
    where
      go : (e s b : Bool) → (e && s) && b ≡ (e && b) && s
      go true true b = sym (and-true b)
      go true false b = sym (and-false b)
      go false s b = refl

  begun-here : (l : ℕ) → begun (suc l) (suc l) ≡ S (suc l) i && not (S l i)
  unfolding held_before
  begun-here l = rw (le-leb (suc l) (suc l) (omega arith), every-alone (suc l) (λ t. S t i))

  -- of a step that holds the segment just one stay holds
  one-begun : (l : ℕ) → sum (suc l) (λ first. cond (begun first l) w 0) ≡ cond (S l i) w 0
  unfolding sum held_before
  one-begun zero = rw (every-alone 0 (λ t. S t i), and-true (S 0 i)) (omega arith)
  one-begun (suc l) =
      sum-suc (suc l) (λ first. cond (begun first (suc l)) w 0)
      ∙ rw (
        sum-eq (suc l) (λ first. cond (begun first (suc l)) w 0) (λ first. cond (begun first l && S (suc l) i) w 0)
            (λ first lt. rw (begun_more first l (omega arith))),
        sum-where w (suc l) (S (suc l) i) (λ first. begun first l),
        one-begun l,
        begun-here l,
      )
      (either (S (suc l) i) (S l i))
    where
      either : (b c : Bool) → cond b (cond c w 0) 0 + cond (b && not c) w 0 ≡ cond b w 0
      either true true = omega arith
      either true false = omega arith
      either false c = omega arith

  -- a stay that is still held in step l has had a modifying touch, or has it in step l + 1 if it is held there
  abbrev modified_by : ℕ → ℕ → Bool
  modified_by first l = begun first l && cond (modifies T marks l i) true (some_step first l (modifies_in T marks i))

  modified-more : (first l : ℕ) → first ≤ l → begun_modified first (suc l) ≡ modified_by first l && S (suc l) i
  unfolding modifies_in
  modified-more first l le =
      rw (begun_more first l le, some_more first l (modifies_in T marks i) le)
      (go (begun first l) (S (suc l) i) (some_step first l (modifies_in T marks i)) (modifies T marks l i))
    where
      go : (b s q m : Bool) → (b && s) && (q || m) ≡ (b && cond m true q) && s
      go true true true true = refl
      go true true true false = refl
      go true true false true = refl
      go true true false false = refl
      go true false q true = refl
      go true false q false = sym (and-false q)
      go false s q m = refl

  modified-here : (l : ℕ) → begun_modified (suc l) (suc l) ≡ (S (suc l) i && not (S l i)) && modifies T marks l i
  unfolding modifies_in
  modified-here l = rw (begun-here l, some_alone (suc l) (modifies_in T marks i))

  -- those begun up to step l, by whether step l + 1 modifies
  before-or-now : (l : ℕ) (m : Bool)
      → sum (suc l) (λ first. cond (begun first l && cond m true (some_step first l (modifies_in T marks i))) w 0)
      ≡ cond m (sum (suc l) (λ first. cond (begun first l) w 0)) (sum (suc l) (λ first. cond (begun_modified first l) w 0))
  before-or-now l true = sum-where w (suc l) true (λ first. begun first l)
  before-or-now l false = refl

  -- the stay of a step has had a modifying touch just where the segment is modified
  one-modified : (l : ℕ) → sum (suc l) (λ first. cond (begun_modified first l) w 0) ≡ cond (dirty T marks S l i) w 0
  unfolding sum dirty modifies_in
  one-modified zero = rw (some_alone 0 (modifies_in T marks i), and-false (begun 0 0))
  one-modified (suc l) =
      sum-suc (suc l) (λ first. cond (begun_modified first (suc l)) w 0)
      ∙ rw (
        sum-eq (suc l) (λ first. cond (begun_modified first (suc l)) w 0)
            (λ first. cond (modified_by first l && S (suc l) i) w 0)
            (λ first lt. rw (modified-more first l (omega arith))),
        sum-where w (suc l) (S (suc l) i) (λ first. modified_by first l),
        before-or-now l (modifies T marks l i),
        one-begun l,
        one-modified l,
        modified-here l,
      )
      (either (S (suc l) i) (S l i) (modifies T marks l i) (dirty T marks S l i))
    where
      either : (s c m q : Bool)
          → cond s (cond m (cond c w 0) (cond q w 0)) 0 + cond ((s && not c) && m) w 0 ≡ cond (s && (m || q)) w 0
      either true true true q = omega arith
      either true false true q = omega arith
      either true true false q = omega arith
      either true false false q = omega arith
      either false c m q = omega arith

  -- what the stays add that end in step l
  one_end : (l : ℕ) → l ≤ steps T
      → sum (suc (steps T)) (λ first. cond (is_modified_stay T marks S i first l) w 0)
      ≡ cond (dirty T marks S l i && not (held_after T S i l)) w 0
  unfolding is_modified_stay is_stay
  one_end l le =
      sum-front (suc (steps T)) (suc l) (λ first. cond (is_modified_stay T marks S i first l) w 0) (omega arith)
      (λ first lt. rw (lt-leb first l lt))
      ∙ rw (
        sum-eq (suc l) (λ first. cond (is_modified_stay T marks S i first l) w 0)
            (λ first. cond (begun_modified first l && not (held_after T S i l)) w 0)
            (λ first lt. rw (
              le-leb l (steps T) le,
              last-test (leb first l) (every_step first l (λ t. S t i)) (not (held_before S i first))
                  (not (held_after T S i l)) (some_step first l (modifies_in T marks i)),
            )),
        sum-where w (suc l) (not (held_after T S i l)) (λ first. begun_modified first l),
        one-modified l,
      )
      (both (not (held_after T S i l)) (dirty T marks S l i))
    where
      last-test : (o e b a m : Bool) → ((o && true) && (e && (b && a))) && m ≡ ((o && (e && b)) && m) && a
      last-test true true true true m = sym (and-true m)
      last-test true true true false m = sym (and-false m)
      last-test true true false a m = refl
      last-test true false b a m = refl
      last-test false e b a m = refl

      both : (a q : Bool) → cond a (cond q w 0) 0 ≡ cond (q && a) w 0
      both true q = rw (and-true q)
      both false q = rw (and-false q)

  -- and all stays: those that a step ends, and the one that the record ends
  all-ends : sum (suc (steps T)) (λ first. sum (suc (steps T)) (λ last. cond (is_modified_stay T marks S i first last) w 0))
      ≡ sum (steps T) (λ t. cond (dirty T marks S t i && not (S (suc t) i)) w 0) + cond (dirty T marks S (steps T) i) w 0
  unfolding held_after
  all-ends =
      sum-swap (suc (steps T)) (suc (steps T)) (λ first last. cond (is_modified_stay T marks S i first last) w 0)
      ∙ sum-suc (steps T) (λ last. sum (suc (steps T)) (λ first. cond (is_modified_stay T marks S i first last) w 0))
      ∙ rw (
        sum-eq (steps T) (λ last. sum (suc (steps T)) (λ first. cond (is_modified_stay T marks S i first last) w 0))
            (λ t. cond (dirty T marks S t i && not (S (suc t) i)) w 0)
            (λ t lt. one_end t (omega arith) ∙ rw (lt-ltb t (steps T) lt)),
        one_end (steps T) (omega arith),
        le-ltb (steps T) (steps T) (omega arith),
        and-true (dirty T marks S (steps T) i),
      )

-- the stores of any schedule are those at the ends of its stays
pub stays-ends : (T : Trace) (marks : ℕ → Bool) (S : ℕ → ℕ → Bool) → stores_of T marks S ≡ stores_at_ends T marks S
unfolding stores_of stores_at_ends
stays-ends T marks S =
    sum-eq (segs T)
    (λ i. sum (suc (steps T)) (λ first. sum (suc (steps T)) (λ last. cond (is_modified_stay T marks S i first last) (swap_of T i) 0)))
    (λ i. sum (steps T) (λ t. dropped t i) + ended i)
    (λ i lt. all-ends T marks S i (swap_of T i))
    ∙ sum-add (segs T) (λ i. sum (steps T) (λ t. dropped t i)) ended
    ∙ rw (sum-swap (segs T) (steps T) (λ i t. dropped t i))
  where
    dropped : ℕ → ℕ → ℕ
    dropped t i = cond (dirty T marks S t i && not (S (suc t) i)) (swap_of T i) 0

    ended : ℕ → ℕ
    ended i = cond (dirty T marks S (steps T) i) (swap_of T i) 0

-- those of a permitted one are those at the first modifying touch of each stay
pub stays-marks : (T : Trace) (marks : ℕ → Bool) (p : List ℕ) → Permitted T p
    → stores_of T marks (held T p) ≡ stores_at_marks T marks (held T p)
stays-marks T marks p ok = stays-ends T marks (held T p) ∙ sym (stores-ends T marks (held T p) ok.touched_held)

-- and so its total
pub total-by-marks : (T : Trace) (marks : ℕ → Bool) (h d : ℕ) (p : List ℕ) → Permitted T p
    → marked_total T marks h d p
    ≡ total_cost h d (memory_of T (held T p)) (load_of T (held T p) + stores_at_marks T marks (held T p))
unfolding marked_total marked_load schedule_memory schedule_load
total-by-marks T marks h d p ok = rw (stays-marks T marks p ok)
