-- What a step without loss shows, over plain variables: where the cost of a schedule in every step is the least that the potential of the
-- lower bound allows, and no decision ties, its decisions are those of the schedule of the least total.
use Prim.Native.Nat.{ℕ, suc, ◌+◌, ◌-◌, ◌*◌, ◌≤◌, ◌<◌}
use mathlib.Core.Path.{◌≡◌, refl, sym, ◌∙◌}
use mathlib.Core.Bool.{Bool, true, false, cond, not, ◌&&◌, ◌||◌, false≢true}
use mathlib.Core.Option.{Option, none, some}
use native.Mathlib.Omega.{arith}
use native.Mathlib.Nat.{add-zero}
use borrow.Author.Tests.{leb-true, leb-false, le-leb}
use Rattle.model.specs.Costs.{total_cost}
use Rattle.model.specs.Traces.{later}
use Rattle.model.specs.Figures.{is_reuse}
use Rattle.model.proofs.Touches.{reuse-later}
use Rattle.model.proofs.LowerBound.{least_cost, least-within}
use Rattle.stores.specs.Modtotal.{plus, joins}
use Rattle.stores.proofs.LowerBound.{excess_of, worth, worth-within}
use Rattle.stores.proofs.Paid.{is_kept, is_joined}
use Rattle.stores.proofs.Reached.{or_right}

-- a step without loss: m says whether the segment is touched, g whether a touch modifies, b and c whether it is held before the step and
-- in it, q whether it is modified before
abbrev pub Tight : (h d u w : ℕ) (o e : Option ℕ) (m g b c q : Bool) → Type 0
Tight h d u w o e m g b c q =
    (cond m (least_cost (d * u) (h * w) o) 0 + cond m (cond g (worth h d u w o e) 0) 0)
    + (cond c (least_cost (d * u) (h * w) (cond m (some 0) (later o))) 0
    + cond (c && ((m && g) || q))
    (worth h d u w (cond m (some 0) (later o)) (cond m (cond g (some 0) (plus e (excess_of h d u w o))) e)) 0)
    ≡ total_cost h d (cond (c && not m) u 0) (cond m (cond b 0 w) 0 + cond m (cond (g && not q) w 0) 0)
    + (cond b (least_cost (d * u) (h * w) o) 0 + cond q (worth h d u w o e) 0)

-- what the steps before show: a held segment was touched; beyond the keep limit it is modified; a modified one can still join
pub record Before (h d u w : ℕ) (o e : Option ℕ) (b q : Bool) : Type 0 where
  pub seen : b ≡ true → is_reuse o ≡ true
  pub over : b ≡ true → 0 < excess_of h d u w o → q ≡ true
  pub can_join : q ≡ true → joins (h * w) (plus e (excess_of h d u w o)) ≡ true

-- what the steps after show: n says whether the next touch is kept, j whether the next modifying touch is joined
pub record After (h d u w : ℕ) (o e : Option ℕ) (b q n j : Bool) : Type 0 where
  pub out_dropped : b ≡ false → n ≡ false
  pub clean_apart : q ≡ false → j ≡ false
  pub dirty_joined : q ≡ true → 0 < worth h d u w o e → j ≡ true
  pub held_kept : b ≡ true → 0 < least_cost (d * u) (h * w) o → n || j ≡ true

pub not-true : (b : Bool) → (b ≡ true → ⊥) → b ≡ false
not-true true n = absurd (n refl)
not-true false n = refl

kept-or : (k j : Bool) → (k ≡ false → j ≡ true) → k || j ≡ true
kept-or true j n = refl
kept-or false j n = n refl

-- right after a touch there is no excess
again : (h d u w : ℕ) (e : Option ℕ) → plus e (excess_of h d u w (some 0)) ≡ e
again h d u w none = refl
again h d u w (some y) =
    let none : d * (0 * u) - h * w ≡ 0 = omega arith in
    rw (none, add-zero y)

-- one step more lowers neither what a modified segment saves nor the least cost of a touch
worth-later : (h d u w : ℕ) (o e : Option ℕ) → worth h d u w o e ≤ worth h d u w (later o) e
unfolding later
worth-later h d u w none e = omega arith
worth-later h d u w (some k) none = omega arith
worth-later h d u w (some k) (some y) = omega arith

least-longer : (u w : ℕ) (o : Option ℕ) → least_cost u w o ≤ least_cost u w (later o)
unfolding later
least-longer u w none = omega arith
least-longer u w (some k) = omega arith

-- beyond the keep limit a modified segment saves something
worth-over : (h d u w : ℕ) (o e : Option ℕ) → 0 < h * w → 0 < excess_of h d u w o → 0 < worth h d u w o e
worth-over h d u w o none pos over = omega arith
worth-over h d u w o (some y) pos over = omega arith

-- a reuse that is not kept is beyond the limit
not-kept-over : (h d u w : ℕ) (o : Option ℕ) → is_reuse o ≡ true → is_kept h d u w o ≡ false → 0 < excess_of h d u w o
not-kept-over h d u w none r k = absurd (false≢true r)
not-kept-over h d u w (some n) r k = omega (arith, leb-false (d * (n * u)) (h * w) k)

-- a modified segment that is held one step more, without loss, can still join
join-later : (h d u w : ℕ) (o e : Option ℕ) (g : Bool) → is_reuse o ≡ true → joins (h * w) (plus e (excess_of h d u w o)) ≡ true
    → Tight h d u w o e false g true true true → joins (h * w) (plus e (excess_of h d u w (later o))) ≡ true
unfolding later
join-later h d u w none e g r can tight = absurd (false≢true r)
join-later h d u w (some k) none g r can tight = can
join-later h d u w (some k) (some y) g r can tight =
    le-leb (y + (d * (suc k * u) - h * w)) (h * w) (omega (arith, leb-true (y + (d * (k * u) - h * w)) (h * w) can))

-- one that is not modified is within the keep limit
within-limit : (h d u w : ℕ) (o e : Option ℕ) (g : Bool) → 0 < d * u → is_reuse o ≡ true → Tight h d u w o e false g true true false
    → 0 < excess_of h d u w (later o) → ⊥
unfolding later
within-limit h d u w none e g some-u r tight x = false≢true r
within-limit h d u w (some k) e g some-u r tight x = omega arith

module _ (h d u w : ℕ) (o e : Option ℕ) (some-u : 0 < d * u) (some-w : 0 < h * w) where
  -- from the first step to the last
  pub before-step : (m g b c q : Bool) → (m ≡ false → c ≡ true → b ≡ true) → Before h d u w o e b q → Tight h d u w o e m g b c q
      → Before h d u w (cond m (some 0) (later o)) (cond m (cond g (some 0) (plus e (excess_of h d u w o))) e) c (c && ((m && g) || q))
  before-step true g b c q stay B tight =
      record {
        seen = λ h. refl;
        over = λ h x. absurd (omega arith);
        can_join = join g c q B.can_join;
      }
    where
      join : (g c q : Bool) → (q ≡ true → joins (h * w) (plus e (excess_of h d u w o)) ≡ true) → c && (g || q) ≡ true
          → joins (h * w) (plus (cond g (some 0) (plus e (excess_of h d u w o))) (excess_of h d u w (some 0))) ≡ true
      join true c q can y = le-leb (0 + (d * (0 * u) - h * w)) (h * w) (omega arith)
      join false true q can y = rw (again h d u w (plus e (excess_of h d u w o))) (can y)
      join false false q can y = absurd (false≢true y)
  before-step false g b false q stay B tight =
      record {
        seen = λ h. absurd (false≢true h);
        over = λ h. absurd (false≢true h);
        can_join = λ h. absurd (false≢true h);
      }
  before-step false g false true q stay B tight = absurd (false≢true (stay refl refl))
  before-step false g true true true stay B tight =
      record {
        seen = λ y. reuse-later o ∙ B.seen refl;
        over = λ y x. refl;
        can_join = λ y. join-later h d u w o e g (B.seen refl) (B.can_join refl) tight;
      }
  before-step false g true true false stay B tight =
      record {
        seen = λ y. reuse-later o ∙ B.seen refl;
        over = λ y x. absurd (within-limit h d u w o e g some-u (B.seen refl) tight x);
        can_join = λ y. absurd (false≢true y);
      }

  -- from the last step to the first
  pub after-step : (m g b c q n j : Bool) → (m ≡ false → c ≡ true → b ≡ true) → (m ≡ true → c ≡ true) → (q ≡ true → b ≡ true)
      → (is_kept h d u w o ≡ true → least_cost (d * u) (h * w) o < h * w)
      → (is_joined h d u w o e ≡ true → worth h d u w o e < h * w)
      → Before h d u w o e b q → Tight h d u w o e m g b c q
      → After h d u w (cond m (some 0) (later o)) (cond m (cond g (some 0) (plus e (excess_of h d u w o))) e) c (c && ((m && g) || q)) n j
      → After h d u w o e b q (cond m (is_kept h d u w o) n) (cond (m && g) (is_joined h d u w o e) j)
  after-step false g false true q n j stay hold clean strict-k strict-j B tight A = absurd (false≢true (stay refl refl))
  after-step false g false false true n j stay hold clean strict-k strict-j B tight A = absurd (false≢true (clean refl))
  after-step false g false false false n j stay hold clean strict-k strict-j B tight A =
      record {
        out_dropped = λ y. A.out_dropped refl;
        clean_apart = λ y. A.clean_apart refl;
        dirty_joined = λ y. absurd (false≢true y);
        held_kept = λ y. absurd (false≢true y);
      }
  after-step false g true false q n j stay hold clean strict-k strict-j B tight A =
      record {
        out_dropped = λ y. absurd (false≢true (sym y));
        clean_apart = λ y. A.clean_apart refl;
        dirty_joined = λ y x. absurd (dropped q y tight x);
        held_kept = λ y x. absurd (omega (arith, tight));
      }
    where
      dropped : (q : Bool) → q ≡ true → Tight h d u w o e false g true false q → 0 < worth h d u w o e → ⊥
      dropped true y tight x = omega (arith, tight)
      dropped false y tight x = false≢true y
  after-step false g true true q n j stay hold clean strict-k strict-j B tight A =
      record {
        out_dropped = λ y. absurd (false≢true (sym y));
        clean_apart = A.clean_apart;
        dirty_joined = λ y x. A.dirty_joined y (omega (arith, worth-later h d u w o e));
        held_kept = λ y x. A.held_kept refl (omega (arith, least-longer (d * u) (h * w) o));
      }
  after-step true g b false q n j stay hold clean strict-k strict-j B tight A = absurd (false≢true (hold refl))
  after-step true g false true true n j stay hold clean strict-k strict-j B tight A = absurd (false≢true (clean refl))
  after-step true false false true false n j stay hold clean strict-k strict-j B tight A =
      record {
        out_dropped = λ y. not-true (is_kept h d u w o) (λ k. omega (arith, strict-k k, tight));
        clean_apart = A.clean_apart;
        dirty_joined = λ y. absurd (false≢true y);
        held_kept = λ y. absurd (false≢true y);
      }
  after-step true false true true q n j stay hold clean strict-k strict-j B tight A =
      record {
        out_dropped = λ y. absurd (false≢true (sym y));
        clean_apart = A.clean_apart;
        dirty_joined = λ y x. A.dirty_joined y (rw (again h d u w (plus e (excess_of h d u w o))) x);
        held_kept = λ y x. kept-or (is_kept h d u w o) j (λ k. let over = not-kept-over h d u w o (B.seen refl) k in
            A.dirty_joined (B.over refl over) (rw (again h d u w (plus e (excess_of h d u w o))) (worth-over h d u w o e some-w over)));
      }
  after-step true true false true false n j stay hold clean strict-k strict-j B tight A =
      record {
        out_dropped = λ y. not-true (is_kept h d u w o) (λ k. omega (arith, strict-k k, tight, worth-within h d u w o e));
        clean_apart = λ y. not-true (is_joined h d u w o e) (λ k. omega (arith, strict-j k, tight, least-within (d * u) (h * w) o));
        dirty_joined = λ y. absurd (false≢true y);
        held_kept = λ y. absurd (false≢true y);
      }
  after-step true true true true false n j stay hold clean strict-k strict-j B tight A =
      record {
        out_dropped = λ y. absurd (false≢true (sym y));
        clean_apart = λ y. not-true (is_joined h d u w o e) (λ k. omega (arith, strict-j k, tight));
        dirty_joined = λ y. absurd (false≢true y);
        held_kept = λ y x. kept-or (is_kept h d u w o) (is_joined h d u w o e)
            (λ k. absurd (false≢true (B.over refl (not-kept-over h d u w o (B.seen refl) k))));
      }
  after-step true true true true true n j stay hold clean strict-k strict-j B tight A =
      record {
        out_dropped = λ y. absurd (false≢true (sym y));
        clean_apart = λ y. absurd (false≢true (sym y));
        dirty_joined = λ y x. B.can_join refl;
        held_kept = λ y x. or_right (is_kept h d u w o) (is_joined h d u w o e) (B.can_join refl);
      }
