-- Demand 3 holds of every run of bytes that reads as an accepted sheet, whatever its form, and of each of its rows.
use Rattle.std.specs.Prelude.{Ok}
use Prim.Native.Nat.{ℕ, ◌*◌, ◌≤◌, ◌<◌}
use mathlib.Core.Path.{◌≡◌, refl, sym, ap, ◌∙◌}
use mathlib.Core.Bool.{Bool, true, false, cond}
use mathlib.Core.List.{List}
use native.Mathlib.Omega.{arith}
use borrow.Author.Tests.{leb-true, leb-false, le-leb, lt-leb}
use lib.Dec.{leb}
use lib.ListN.{length, take, drop, replicate, length-replicate}
use lib.Seq.{drop_at}
use Rattle.model.specs.Demand.{row_opttotal, row_schedule}
use Rattle.model.specs.Places.{answer_for, place_for}
use Rattle.model.specs.Schedules.{Permitted, schedule_memory}
use Rattle.model.specs.Sheets.{SheetValue, newest_form, trace_of}
use Rattle.model.specs.Sums.{tabulate}
use Rattle.model.specs.Traces.{refs_of}
use Rattle.sheet.specs.Reading.{accepted, read_forms, read_sheet}
use Rattle.sheet.proofs.Accepted.{accepted-form}
use Rattle.sheet.proofs.RoundTrip.{taken-form}
use Rattle.model.specs.RowAnswers.{figures_at}
use Rattle.listing.specs.Listing.{listing}
use Rattle.sheet_schedules.proofs.PlanResults.{schedule-length, modified-length}
use Rattle.stores.specs.Rows.{row_modtotal, row_mod_schedule, sheet_load, sheet_total}
use Rattle.analyser.specs.Texts.{listing_result}
use Rattle.analyser.specs.Schedules.{schedule_result}
use Rattle.analyser.specs.DemandFromBytes.{left_schedule, HasOptimum, Demand3FromBytes}
use Rattle.analyser.specs.Schedules.{price_of}
use Rattle.analyser.specs.DemandThree.{row_optimum, left_by_form, OwnOptimum, DemandThree, EveryRow}
use Rattle.analyser.specs.Schedules.{modified_result}
use Rattle.analyser.specs.ModifiedFromBytes.{left_modified, HasModtotal, ModifiedFromBytes}
use Rattle.analyser.proofs.Demand.{stores-priced, load_is, total-is, demand-3-from-bytes}
use Rattle.analyser.proofs.Modified.{modified-from-bytes}

module _ (s : List ℕ) (v : SheetValue) (reads : read_sheet s ≡ accepted v) (r : ℕ) (row : r < length v.head.rows) where
  form_in_lem : (1 ≤ v.form) × (v.form ≤ newest_form)
  form_in_lem = accepted-form 1 newest_form (omega arith) s v reads

  -- the calls of forms 1 to 3, and that of form 4, read the same sheet
  plain-reads : v.form ≤ 3 → read_forms 1 3 s ≡ accepted v
  plain-reads within = taken-form 1 3 s v reads form_in_lem.0 within

  modified-reads : v.form ≡ 4 → read_forms 4 4 s ≡ accepted v
  modified-reads four = taken-form 4 4 s v reads (omega (arith, four)) (omega (arith, four))

  plain_row : v.form ≤ 3 → Demand3FromBytes s v r
  plain_row within = demand-3-from-bytes s v (plain-reads within) r row

  modified-row : v.form ≡ 4 → ModifiedFromBytes s v r
  modified-row four = modified-from-bytes s v (modified-reads four) r row

  -- what the test of the form says
  is-four : leb 4 v.form ≡ true → v.form ≡ 4
  is-four e = omega (arith, leb-true 4 v.form e, form_in_lem.1)

  is_plain : leb 4 v.form ≡ false → v.form ≤ 3
  is_plain e = omega (arith, leb-false 4 v.form e)

  -- the optimum by the test of the form
  optimum-is : (b : Bool) → leb 4 v.form ≡ b → (n : ℕ) → row_optimum v n ≡ cond b (row_modtotal v n) (row_opttotal v n)
  optimum-is b e n = ap (λ (c : Bool). cond c (row_modtotal v n) (row_opttotal v n)) e

  -- the optimum of either form is within the cost of each permitted schedule
  lower-row : (p : List ℕ) → Permitted (trace_of v) p → (b : Bool) → leb 4 v.form ≡ b
      → cond b (row_modtotal v r) (row_opttotal v r) ≤ sheet_total v r p
  lower-row p ok true e = (modified-row (is-four e)).lower p ok
  lower-row p ok false e = rw (total-is s v (plain-reads (is_plain e)) r row p) ((plain_row (is_plain e)).lower p ok)

  -- what the schedule call of the form answers
  accepted-row : (b : Bool) → leb 4 v.form ≡ b → (place : List ℕ) → 32 * length v.entries ≤ length place
      → answer_for (cond b (modified_result s r) (schedule_result s r)) place
      ≡ Ok (32 * length v.entries)
  accepted-row true e = (modified-row (is-four e)).schedule_accepted
  accepted-row false e = (plain_row (is_plain e)).schedule_accepted

  -- a schedule that has the optimum of its form has that of the row
  modified-optimum : v.form ≡ 4 → (p : List ℕ) → HasModtotal s v r p → OwnOptimum s v r p
  modified-optimum four p w =
      let o = optimum-is true (le-leb 4 v.form (omega (arith, four))) r in
      record {
        permitted = w.permitted;
        total = w.total ∙ sym o;
        priced = rw o w.priced;
        least = λ q ok e. w.least q ok (e ∙ o);
      }

  plain-optimum : v.form ≤ 3 → (p : List ℕ) → HasOptimum s v r p → OwnOptimum s v r p
  plain-optimum within p w =
      let o = optimum-is false (lt-leb 4 v.form (omega (arith, within))) r in
      let load = load_is s v (plain-reads within) r row in
      let total = total-is s v (plain-reads within) r row in
      let cost : sheet_total v r p ≡ row_optimum v r = total p ∙ w.total ∙ sym o in
      record {
        permitted = w.permitted;
        total = cost;
        priced = stores-priced s v reads r row p w.permitted
            ∙ ap (λ (c : ℕ). price_of (schedule_memory (trace_of v) p) (sheet_load v p) c) cost;
        least = λ q ok e. omega (arith, load p, load q, w.load, (plain_row within).least q ok (sym (total q) ∙ e ∙ o));
      }

  -- what the schedule call of the form leaves at the front of a place
  written_row : (b : Bool) → leb 4 v.form ≡ b → (place : List ℕ) → 32 * length v.entries ≤ length place
      → OwnOptimum s v r (take (32 * length v.entries) (place_for (cond b (modified_result s r) (schedule_result s r)) place))
  written_row true e place long = modified-optimum (is-four e) (left_modified s v r place) ((modified-row (is-four e)).written place long)
  written_row false e place long = plain-optimum (is_plain e) (left_schedule s v r place) ((plain_row (is_plain e)).written place long)

  -- and beyond
  beyond-row : (b : Bool) → leb 4 v.form ≡ b → (place : List ℕ) → 32 * length v.entries ≤ length place
      → drop (32 * length v.entries) (place_for (cond b (modified_result s r) (schedule_result s r)) place)
      ≡ drop (32 * length v.entries) place
  beyond-row true e place long =
      ap (drop (32 * length v.entries)) ((modified-row (is-four e)).left place long)
      ∙ drop_at (row_mod_schedule v r) (drop (32 * length v.entries) place) (32 * length v.entries) (modified-length v r)
  beyond-row false e place long =
      ap (drop (32 * length v.entries)) ((plain_row (is_plain e)).left place long)
      ∙ drop_at (row_schedule v r) (drop (32 * length v.entries) place) (32 * length v.entries) (schedule-length v r)

  -- modtotal of each row, as it is listed, is the row's optimum
  listed-row : v.form ≡ 4
      → listing_result s
      ≡ Ok (listing 4 (refs_of (trace_of v)) (length v.entries) (length v.head.sizes)
      (tabulate (length v.head.rows) (figures_at v)) (tabulate (length v.head.rows) (row_optimum v)))
  listed-row four =
      (modified-row four).listed
      ∙ ap
      (λ (c : Bool). Ok
      (listing 4 (refs_of (trace_of v)) (length v.entries) (length v.head.sizes) (tabulate (length v.head.rows) (figures_at v))
      (tabulate (length v.head.rows) (λ n. cond c (row_modtotal v n) (row_opttotal v n)))))
      (sym (le-leb 4 v.form (omega (arith, four))))

  -- a place of the schedule's length
  place : List ℕ
  place = replicate (32 * length v.entries) 0

  fits : 32 * length v.entries ≤ length place
  unfolding place
  fits = omega (arith, length-replicate {A = ℕ} (32 * length v.entries) 0)

  pub demand-row : DemandThree s v r
  demand-row =
      let test : leb 4 v.form ≡ leb 4 v.form = refl in
      let w = written_row (leb 4 v.form) test place fits in
      record {
        some_form = form_in_lem.0;
        known_form = form_in_lem.1;
        lower = λ p ok. lower-row p ok (leb 4 v.form) test;
        reached = (left_by_form s v r place, w.permitted, w.total);
        priced = stores-priced s v reads r row;
        schedule_accepted = accepted-row (leb 4 v.form) test;
        written = written_row (leb 4 v.form) test;
        beyond = beyond-row (leb 4 v.form) test;
        figures_accepted = λ within. (plain_row within).figures_accepted;
        reported = λ within. (plain_row within).reported_optimum ∙ sym (optimum-is false (lt-leb 4 v.form (omega (arith, within))) r);
        listed = listed-row;
      }

pub demand-three : EveryRow
demand-three = demand-row
