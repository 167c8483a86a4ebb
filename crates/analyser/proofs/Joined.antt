-- The text that the call gives for two sheets that join is the joint sheet's, and its figures are those of the two together.
use Rattle.model.specs.RowAnswers.{figures_given}
use Rattle.std.specs.Prelude.{Ok, is_ok}
use Prim.Native.Nat.{ℕ, ◌≤◌, ◌<◌}
use mathlib.Core.Path.{◌≡◌, refl, sym, ap, ◌∙◌}
use mathlib.Core.List.{List}
use native.Mathlib.Omega.{arith}
use lib.ListN.{length}
use Rattle.model.specs.Rows.{row_figures}
use Rattle.model.specs.Sheets.{SheetValue, Valid, form_bytes, newest_form, trace_of, row_in, row_at}
use Rattle.model.specs.declared.PriceRow.{PriceRow}
use Rattle.sheet.specs.Reading.{accepted, read_forms, read_sheet}
use Rattle.sheet.specs.Writing.{sheet_text}
use Rattle.sheet.proofs.Accepted.{accepted-valid}
use Rattle.sheet.proofs.Lengths.{text-within}
use Rattle.sheet.proofs.RoundTrip.{written-then-read, every-form}
use Rattle.joint.specs.Figures.{joint_run}
use Rattle.joint.specs.Joining.{join_of}
use Rattle.joint.specs.Joint.{joint_head, joined, Joins}
use Rattle.joint.proofs.Joined.{same-heads, joined-valid, joint-figures, side_by_side}
use Rattle.joint.proofs.Joining.{join-joined, join-accepted}
use Rattle.analyser.specs.Figures.{figures_answer}
use Rattle.analyser.proofs.Demand.{figures_are}
use Rattle.analyser.proofs.Given.{given-accepted}
use Rattle.analyser.specs.Sheets.{joint_result, join_result}
use Rattle.analyser.specs.JoinedFromBytes.{FiguresAdd, JoinedFromBytes}

module _ (s1 s2 : List ℕ) (v w : SheetValue) (first : read_forms 2 3 s1 ≡ accepted v) (second : read_forms 2 3 s2 ≡ accepted w) where
  -- the call goes by what joining the two comes to
  result-is : join_result s1 s2 ≡ joint_result v w
  unfolding join_result
  result-is = rw (first, second)

  -- two sheets that join are given
  pub join-given : Joins v w → join_result s1 s2 ≡ Ok (sheet_text (joined v w))
  join-given joins = result-is ∙ rw (join-joined v w joins)

  first-valid : Valid v
  first-valid = accepted-valid 2 3 (omega arith) s1 v first

  second-valid : Valid w
  second-valid = accepted-valid 2 3 (omega arith) s2 w second

  module _ (text : List ℕ) (e : join_result s1 s2 ≡ Ok text) where
    both : Joins v w × (text ≡ sheet_text (joined v w))
    both =
        let given = given-accepted (join_of v w) text (sym result-is ∙ e) in
        let found = join-accepted v w given.0 given.1 in
        (found.0, given.2 ∙ ap sheet_text (sym found.1))

    valid-joint : Valid (joined v w)
    valid-joint = joined-valid v w first-valid second-valid both.0

    form-joint : (joined v w).form ≡ 3
    unfolding joined
    form-joint = refl

    length-joint : length text ≤ form_bytes 3
    unfolding joined
    length-joint = rw both.1 (text-within (joined v w) valid-joint)

    rows-joint : (joined v w).head.rows ≡ v.head.rows
    unfolding joined joint_head
    rows-joint = refl

    rows_same : v.head.rows ≡ w.head.rows
    rows_same = (same-heads v.head w.head both.0.same).rows

    reads-joint : read_sheet text ≡ accepted (joined v w)
    reads-joint =
        ap read_sheet both.1
        ∙ written-then-read 1 newest_form (joined v w) valid-joint.some_form valid-joint.form_within valid-joint

    figures-of : (h d : ℕ)
        → FiguresAdd v w (row_figures (joint_run v w) h d) (row_figures (trace_of v) h d) (row_figures (trace_of w) h d)
    unfolding row_figures
    figures-of h d =
        let f = joint-figures v w first-valid second-valid both.0 h d in
        record {
          misses_add = f.misses_add;
          volume_add = f.volume_add;
          load_add = f.load_add;
          optmem_add = f.optmem_add;
          opttotal_add = f.opttotal_add;
          optocc_add = f.optocc_add;
          wsmem_least = f.wsmem_least;
          wsocc_least = f.wsocc_least;
          wsmem_add = f.wsmem_add;
          wsocc_add = f.wsocc_add;
        }

    -- the figures of a row by the prices of the first's
    module _ (r : ℕ) (row : r < length v.head.rows) where
      row-second : row_in w.head.rows r ≡ row_at v r
      row-second = ap (λ (rows : List PriceRow). row_in rows r) (sym rows_same)

      figures-joint : figures_answer text r
          ≡ Ok (row_figures (joint_run v w) (row_at v r).h (row_at v r).d)
      unfolding joined joint_head
      figures-joint = figures_are text (joined v w) reads-joint r row

      figures-first : (figures_given (figures_answer s1 r)) ≡ row_figures (trace_of v) (row_at v r).h (row_at v r).d
      figures-first = ap figures_given (figures_are s1 v (every-form 2 3 (omega arith) s1 v first) r row)

      figures-second : (figures_given (figures_answer s2 r)) ≡ row_figures (trace_of w) (row_at v r).h (row_at v r).d
      figures-second =
          ap figures_given (figures_are s2 w (every-form 2 3 (omega arith) s2 w second) r (rw (← rows_same) row))
          ∙ ap (λ (p : PriceRow). row_figures (trace_of w) p.h p.d) row-second

    pub joined-from-bytes : JoinedFromBytes s1 s2 text v w
    joined-from-bytes =
        record {
          joins = both.0;
          text_is = both.1;
          read_again = reads-joint;
          valid = valid-joint;
          form_3 = form-joint;
          within = length-joint;
          rows_first = rows-joint;
          rows_second = rows-joint ∙ rows_same;
          figures_accepted = λ r row. ap is_ok (figures-joint r row);
          figures_add = λ r row.
              rw (ap figures_given (figures-joint r row), figures-first r row, figures-second r row)
              (figures-of (row_at v r).h (row_at v r).d);
          schedules = λ r row. side_by_side v w first-valid second-valid both.0 (row_at v r).h (row_at v r).d;
        }
