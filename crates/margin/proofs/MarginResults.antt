-- What the margin call answers, by its tests.
use Rattle.std.specs.Prelude.{Option, None, Some, Ok, Err}
use Rattle.std.specs.Option.{ok_or}
use Prim.Native.Nat.{ℕ, ◌≤◌, ◌<◌}
use mathlib.Core.Path.{◌≡◌, refl}
use lib.ListN.{length}
use borrow.Author.Tests.{le-ltb, lt-ltb, le-leb, lt-leb}
use Rattle.model.specs.Sheets.{SheetValue, trace_of}
use Rattle.model.specs.Traces.{refs_of, place_of}
use Rattle.model.specs.declared.Refusal.{Refusal}
use Rattle.model.specs.declared.Refusal.TheVariants.{NoSuchRow, NoSuchReference}
use Rattle.model.specs.Margins.{touch_margin, margin_for}

-- an option as a result: there is a value, or none
pub ok-some : {A : Type 0} (o : Option A) (why : Refusal) (x : A) → ok_or o why ≡ Ok x → o ≡ Some x
ok-some None why x e = cc
ok-some (Some y) why x e = cc

pub err-none : {A : Type 0} (o : Option A) (why w : Refusal) → ok_or o why ≡ Err w → (o ≡ None) × (w ≡ why)
err-none None why w e = (refl, cc)
err-none (Some y) why w e = (cc, cc)

module _ (v : SheetValue) (r n : ℕ) where
  pub margin-no-row : length v.head.rows ≤ r → margin_for v r n ≡ Err NoSuchRow
  unfolding margin_for
  margin-no-row le = rw (le-ltb r (length v.head.rows) le)

  pub margin-none : r < length v.head.rows → n ≡ 0 → margin_for v r n ≡ Err NoSuchReference
  unfolding margin_for
  margin-none lt e = rw (e, lt-ltb r (length v.head.rows) lt)

  pub margin-beyond : r < length v.head.rows → 1 ≤ n → refs_of (trace_of v) < n → margin_for v r n ≡ Err NoSuchReference
  unfolding margin_for
  margin-beyond lt some more =
      rw (lt-ltb r (length v.head.rows) lt, le-leb 1 n some, lt-leb n (refs_of (trace_of v)) more)

  -- a reference that there is
  pub margin-at : r < length v.head.rows → 1 ≤ n → n ≤ refs_of (trace_of v) → margin_for v r n ≡ touch_margin v r (place_of (trace_of v) n)
  unfolding margin_for
  margin-at lt some within = rw (lt-ltb r (length v.head.rows) lt, le-leb 1 n some, le-leb n (refs_of (trace_of v)) within)
