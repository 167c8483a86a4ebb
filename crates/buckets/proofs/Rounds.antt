-- Rounds of the search: of rows a distance s apart, as many do not keep the reuse as lead to the next ones to look at.
use Prim.Native.Nat.{ℕ, ◌+◌, ◌-◌, ◌*◌, ◌≤◌, ◌<◌}
use mathlib.Core.Path.{◌≡◌, refl, sym, ◌∙◌}
use mathlib.Core.Logic.{◌⊎◌, inl, inr, ⊎_elim}
use mathlib.Core.Bool.{Bool, true, false, cond, true≢false}
use mathlib.Core.List.{List}
use native.Mathlib.Omega.{arith}
use Rattle.model.specs.Costs.{keeps}
use Rattle.model.specs.Sheets.{most_rows}
use Rattle.model.specs.declared.PriceRow.{PriceRow}
use Rattle.buckets.specs.inner.Search.{kept_at, Lasts, Parted, Ordered, Narrows, Found}
use Rattle.buckets.specs.declared.search.Reuse.{Reuse}

-- a look tells whether the row keeps the reuse, from the priced amounts
pub look_is : (m n dR hw : ℕ) (b : Bool) → m ≡ dR → n ≡ hw → b ≡ keeps m n → keeps dR hw ≡ b
look_is m n dR hw b memory load is = sym (rw (memory, load) at is)

-- what a look adds, s times
pub look-within : (s : ℕ) (b : Bool) (x : ℕ) → x ≡ cond b 0 1 → s * x ≤ s
look-within s true x is = rw is (omega arith)
look-within s false x is = rw is (omega arith)

pub look_one : (b : Bool) (x : ℕ) → x ≡ cond b 0 1 → x ≤ 1
look_one b x is = omega (arith, look-within 1 b x is)

module _ (holds : ℕ → Bool) (lasts : Lasts holds most_rows) where
  -- before a row of which it does not hold, it holds of none
  fails-before : (i j : ℕ) → i ≤ j → j < most_rows → holds j ≡ false → holds i ≡ false
  fails-before i j le lt e = go (holds i) refl
    where
      go : (b : Bool) → holds i ≡ b → holds i ≡ false
      go true k = k ∙ sym (lasts i j le lt k) ∙ e
      go false k = k

  -- the rows before p that end a part of s were looked at, and led to row `at`: it holds of none before, and either it held of none that
  -- was looked at, or it holds from the end of the part at `at` on
  pub record Counted (s p at : ℕ) : Type 0 where
    pub below : (j : ℕ) → j < at → holds j ≡ false
    pub behind : at ≤ p
    pub either : (at ≡ p) ⊎ ((j : ℕ) → at + s ≤ j + 1 → j < most_rows → holds j ≡ true)

  pub counted_start : (s lo n : ℕ) → Parted holds lo n → Counted s lo lo
  counted_start s lo n b = record { below = b.below; behind = omega arith; either = inl refl }

  -- a look at row m, which ends the part at p
  pub counted_step : (s p at : ℕ) → 1 ≤ s → Counted s p at → (m : ℕ) → m + 1 ≡ p + s → m < most_rows → (x : ℕ) → x ≡ cond (holds m) 0 1
      → Counted s (p + s) (at + s * x)
  counted_step s p at some c m end lt x is = rw is (go (holds m) refl)
    where
      go : (b : Bool) → holds m ≡ b → Counted s (p + s) (at + s * cond (holds m) 0 1)
      go true e =
          let same : at + s * 0 ≡ at = omega arith in
          rw (e, same)
          (record {
            below = c.below;
            behind = omega (arith, c.behind);
            either = inr (⊎_elim (λ here j le l. lasts m j (omega arith) l e) (λ above. above) c.either);
          })
      go false e =
          let here : at ≡ p =
          ⊎_elim (λ k. k) (λ above. absurd (true≢false (sym (above m (omega (arith, c.behind)) lt) ∙ e))) c.either in
          let next : at + s * 1 ≡ p + s = omega arith in
          rw (e, next)
          (record { below = λ j l. fails-before j m (omega arith) lt e; behind = omega arith; either = inl refl })

  -- after the round w rows are left
  pub counted-end : (s lo n p at w : ℕ) → Parted holds lo n → Counted s p at → p + w ≡ lo + n → s ≤ w + 1 → Parted holds at w
  counted-end s lo n p at w b c all small =
      record {
        below = c.below;
        above = λ j le lt. ⊎_elim (λ here. b.above j (omega arith) lt) (λ above. above j (omega arith) lt) c.either;
      }

-- the rounds of the search, from what its looks gave
module _ (rows : List PriceRow) (x : Reuse) where
  abbrev Look : ℕ → ℕ → Type 0
  Look r n = n ≡ cond (kept_at rows x r) 0 1

  -- three looks count no more than 3 rows
  pub looks-few : (r q p a b c : ℕ) → Look r a → Look q b → Look p c → a + b + c ≤ 3
  looks-few r q p a b c la lb lc =
      let kept = kept_at rows x in omega (arith, look_one (kept r) a la, look_one (kept q) b lb, look_one (kept p) c lc)

  -- three looks s apart
  pub narrows-by-three : (lo s : ℕ) → 1 ≤ s → lo + 4 * s ≤ most_rows → (a b c : ℕ) → Look (lo + s - 1) a → Look (lo + 2 * s - 1) b
      → Look (lo + 3 * s - 1) c → Narrows rows x lo (4 * s) (lo + s * (a + b + c)) s
  narrows-by-three lo s some room a b c la lb lc =
      let kept = kept_at rows x in
      let same : lo + s * (a + b + c) ≡ lo + s * a + s * b + s * c = omega arith in
      record {
        within =
            omega (
              arith,
              look-within s (kept (lo + s - 1)) a la,
              look-within s (kept (lo + 2 * s - 1)) b lb,
              look-within s (kept (lo + 3 * s - 1)) c lc,
            );
        parted = λ lasts p.
            let one = counted_step kept lasts s lo lo some (counted_start kept lasts s lo (4 * s) p) (lo + s - 1) (omega arith)
            (omega arith) a la in
            let two = counted_step kept lasts s (lo + s) (lo + s * a) some one (lo + 2 * s - 1) (omega arith) (omega arith) b lb in
            let three = counted_step kept lasts s (lo + s + s) (lo + s * a + s * b) some two (lo + 3 * s - 1) (omega arith)
            (omega arith) c lc in
            rw same (counted-end kept lasts s lo (4 * s) (lo + s + s + s) (lo + s * a + s * b + s * c) s p three (omega arith)
            (omega arith));
      }

  -- four looks at neighbours
  pub narrows-by-four : (lo : ℕ) → lo + 4 ≤ most_rows → (a b c d : ℕ) → Look lo a → Look (lo + 1) b → Look (lo + 2) c → Look (lo + 3) d
      → Narrows rows x lo 4 (lo + a + b + c + d) 0
  narrows-by-four lo room a b c d la lb lc ld =
      let kept = kept_at rows x in
      let same : lo + a + b + c + d ≡ lo + 1 * a + 1 * b + 1 * c + 1 * d = omega arith in
      record {
        within =
            omega (
              arith,
              look_one (kept lo) a la,
              look_one (kept (lo + 1)) b lb,
              look_one (kept (lo + 2)) c lc,
              look_one (kept (lo + 3)) d ld,
            );
        parted = λ lasts p.
            let one = counted_step kept lasts 1 lo lo (omega arith) (counted_start kept lasts 1 lo 4 p) lo (omega arith)
            (omega arith) a la in
            let two = counted_step kept lasts 1 (lo + 1) (lo + 1 * a) (omega arith) one (lo + 1) (omega arith) (omega arith) b lb in
            let three = counted_step kept lasts 1 (lo + 1 + 1) (lo + 1 * a + 1 * b) (omega arith) two (lo + 2) (omega arith)
            (omega arith) c lc in
            let four = counted_step kept lasts 1 (lo + 1 + 1 + 1) (lo + 1 * a + 1 * b + 1 * c) (omega arith) three (lo + 3)
            (omega arith) (omega arith) d ld in
            rw same (counted-end kept lasts 1 lo 4 (lo + 1 + 1 + 1 + 1) (lo + 1 * a + 1 * b + 1 * c + 1 * d) 0 p four
            (omega arith) (omega arith));
      }

  -- where there are no more than n rows, the first that keeps the reuse is among n
  few-parted : (count n : ℕ) → count ≤ n → Ordered rows x count → Parted (kept_at rows x) 0 n
  few-parted count n few ord =
      record { below = λ j l. absurd (omega arith); above = λ j l lt. ord.beyond j (omega arith) lt }

  pub found-few : (count n : ℕ) → count ≤ n → n ≤ most_rows → Found rows x count 0 n
  found-few count n few room = record { within = omega arith; parted = λ ord. few-parted count n few ord }

  -- before the first round it is any row
  pub found-any : (count : ℕ) → Found rows x count 0 64
  found-any count =
      record {
        within = omega arith;
        parted = λ ord. record { below = λ j l. absurd (omega arith); above = λ j l lt. absurd (omega arith) };
      }

  -- one more round
  pub found-next : (count lo n r s : ℕ) → Found rows x count lo n → Narrows rows x lo n r s → Found rows x count r s
  found-next count lo n r s f m =
      record { within = omega (arith, f.within, m.within); parted = λ ord. m.parted ord.lasts (f.parted ord) }

  -- one look at one row
  pub found-one : (count : ℕ) → count ≤ 1 → (a : ℕ) → Look 0 a → Found rows x count a 0
  found-one count few a la =
      let kept = kept_at rows x in
      let same : a ≡ 0 + 1 * a = omega arith in
      record {
        within = omega (arith, look_one (kept 0) a la);
        parted = λ ord.
            let p = few-parted count 1 few ord in
            let one = counted_step kept ord.lasts 1 0 0 (omega arith) (counted_start kept ord.lasts 1 0 1 p) 0 (omega arith)
            (omega arith) a la in
            rw same (counted-end kept ord.lasts 1 0 1 (0 + 1) (0 + 1 * a) 0 p one (omega arith) (omega arith));
      }
