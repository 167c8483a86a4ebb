-- What holds of the operating points of every run of bytes that reads as an accepted sheet.
use Rattle.model.specs.RowAnswers.{figures_given}
use Rattle.std.specs.Prelude.{Result, Ok, Err, IsOk, is_ok}
use Prim.Native.Nat.{ℕ, suc, ◌-◌, ◌≤◌, ◌<◌}
use mathlib.Core.Path.{◌≡◌, refl, ap, ◌∙◌, sym}
use mathlib.Core.Bool.{Bool, true, false, cond}
use mathlib.Core.List.{List}
use native.Mathlib.Nat.{mul-le-mul_left}
use native.Mathlib.Omega.{arith}
use borrow.Author.Tests.{ltb-true}
use lib.Dec.{ltb}
use lib.ListN.{length}
use Rattle.model.specs.Rows.{row_figures}
use Rattle.model.specs.Sheets.{SheetValue, Valid, newest_form, trace_of}
use Rattle.model.specs.Schedules.{Permitted, schedule_load}
use Rattle.model.specs.declared.Refusal.{Refusal}
use Rattle.model.specs.declared.Refusal.TheVariants.{NoSuchRow}
use Rattle.sheet.specs.Reading.{accepted, read_sheet}
use Rattle.sheet.proofs.Accepted.{accepted-valid}
use Rattle.points.specs.Points.{thresholds, point_memory, operating_points}
use Rattle.points.proofs.Sheets.{sheet-curve, sheet-place, row-point}
use Rattle.point_list.proofs.Running.{numbers-length}
use Rattle.points.specs.Answers.{points_for}
use Rattle.point_list.proofs.Fitting.{points-fit}
use Rattle.model.specs.Pricing.{schedule_verdict, price_given}
use Rattle.pricing.proofs.Verdicts.{accepted-permitted}
use Rattle.stores.specs.Plans.{priced_at, price_for}
use Rattle.stores.specs.Rows.{sheet_load}
use Rattle.stores.specs.Stays.{marked_load}
use Rattle.analyser.specs.Schedules.{pricing}
use Rattle.analyser.specs.Curves.{points_result}
use Rattle.analyser.specs.PointsFromBytes.{RowPoint, OnOrAbove, PointsFromBytes}
use Rattle.analyser.proofs.Demand.{figures_are, stores-priced}

module _ (s : List ℕ) (v : SheetValue) (reads : read_sheet s ≡ accepted v) where
  valid : Valid v
  valid = accepted-valid 1 newest_form (omega arith) s v reads

  -- what is given is what is given for the sheet
  for-sheet : points_result s ≡ points_for v
  unfolding points_result
  for-sheet = rw reads

  row_of : (r : ℕ) → r < length v.head.rows → RowPoint s v r
  unfolding row_figures
  row_of r lt =
      let p = row-point v valid r lt in
      let f = figures_are s v reads r lt in
      record {
        point = p.0;
        from = p.1;
        reported_memory = ap (λ a. (figures_given a).optmem.0) f ∙ p.2;
        reported_load = ap (λ a. (figures_given a).load.0) f ∙ p.3;
      }

  -- the price of a schedule that is refused has its refusal
  refused-price : (r : ℕ) (p : List ℕ) (why : Refusal) → schedule_verdict (trace_of v) p ≡ Err why → Err why ≡ priced_at v r p
  unfolding priced_at
  refused-price r p why y = rw (y, priced_at)

  -- a schedule that the pricing call accepts is one of a row of the sheet, and permitted
  accepted-row : (r : ℕ) (p : List ℕ) → IsOk (pricing s r p) → (r < length v.head.rows) × Permitted (trace_of v) p
  unfolding pricing price_for
  accepted-row r p e = go (ltb r (length v.head.rows)) refl (rw reads at e)
    where
      at : (w : Result (Unit {0}) Refusal) → schedule_verdict (trace_of v) p ≡ w → IsOk (priced_at v r p) → Permitted (trace_of v) p
      at (Ok u) y f = accepted-permitted (trace_of v) p y
      at (Err why) y f =
          let refused : priced_at v r p ≡ Err why = sym (refused-price r p why y) in
          absurd (let z : ◌≡◌ {A = ℕ} 0 1 = cc in omega arith)

      go : (b : Bool) → ltb r (length v.head.rows) ≡ b → IsOk (cond b (priced_at v r p) (Err NoSuchRow))
          → (r < length v.head.rows) × Permitted (trace_of v) p
      go true b f = (ltb-true r (length v.head.rows) b, at (schedule_verdict (trace_of v) p) refl f)
      go false b f = absurd (let z : ◌≡◌ {A = ℕ} 0 1 = cc in omega arith)

  -- stores only add to the load
  load-least : (p : List ℕ) → schedule_load (trace_of v) p ≤ sheet_load v p
  unfolding marked_load
  load-least p = omega arith

  -- so what the call gives lies on or above each line
  lines_of : (r : ℕ) (p : List ℕ) → IsOk (pricing s r p) → (k : ℕ) → suc k < length (thresholds (trace_of v))
      → OnOrAbove (trace_of v) k (price_given (pricing s r p)).memory.0 (price_given (pricing s r p)).load.0
  lines_of r p e k lt =
      let ok = accepted-row r p e in
      rw (stores-priced s v reads r ok.0 p ok.1)
      (omega (
        arith,
        (sheet-curve v valid).lines k lt p ok.1,
        mul-le-mul_left (point_memory (trace_of v) (suc k) - point_memory (trace_of v) k) (load-least p),
      ))

  pub points-from-bytes : PointsFromBytes s v
  unfolding points_for operating_points
  points-from-bytes =
      record {
        given = for-sheet;
        counted = numbers-length (trace_of v) (length (thresholds (trace_of v)));
        few = sheet-place v valid;
        fits = λ place long. rw for-sheet (points-fit v valid place long);
        curve = sheet-curve v valid;
        priced_lines = lines_of;
        row = row_of;
      }
