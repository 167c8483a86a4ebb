-- What holds of the numbers of the windows call, for every run of bytes for which it gives them.
use Rattle.model.specs.RowAnswers.{figures_given}
use Rattle.std.specs.Prelude.{Ok}
use Prim.Native.Nat.{ℕ, zero, suc, ◌+◌, ◌-◌, ◌≤◌, ◌<◌}
use mathlib.Core.Path.{◌≡◌, sym, ap, ◌∙◌}
use mathlib.Core.List.{List}
use native.Mathlib.Omega.{arith}
use lib.ListN.{length, get_or}
use Rattle.model.specs.Figures.{wsocc}
use Rattle.model.specs.Rows.{row_figures}
use Rattle.model.specs.Sheets.{SheetValue, trace_of, row_at}
use Rattle.model.specs.Traces.{steps}
use Rattle.model.proofs.Tables.{length-tabulate, get_or-tabulate}
use Rattle.sheet.specs.Reading.{accepted, read_sheet}
use Rattle.windows.specs.Windows.{window_at, longer_than}
use Rattle.windows.proofs.Windows.{window-wsocc}
use Rattle.windows.specs.Answers.{windows_verdict, wsoccs, windows_for}
use Rattle.window_list.proofs.Answers.{windowed}
use Rattle.analyser.proofs.Demand.{figures_are}
use Rattle.analyser.specs.Curves.{windows_result}
use Rattle.analyser.specs.WindowsFromBytes.{WindowsFromBytes}
use Rattle.analyser.proofs.GivenLists.{given-after}

module _ (s : List ℕ) (v : SheetValue) (reads : read_sheet s ≡ accepted v) (list : List ℕ) (gave : windows_result s ≡ Ok list) where
  asked : (windows_verdict v.head ≡ (Ok tt)) × (list ≡ wsoccs (trace_of v))
  unfolding windows_result windows_for
  asked = given-after (windows_verdict v.head) (wsoccs (trace_of v)) list (rw reads at gave)

  -- place n has wsocc at the threshold n over 1, which is what the recursion gives
  at_place : (n : ℕ) → n < steps (trace_of v) → get_or list n 0 ≡ wsocc (trace_of v) n 1
  unfolding wsoccs
  at_place n lt = ap (λ (l : List ℕ). get_or l n 0) asked.1 ∙ get_or-tabulate (steps (trace_of v)) (λ m. wsocc (trace_of v) m 1) n 0 lt

  by-recursion : (n : ℕ) → n < steps (trace_of v) → get_or list n 0 ≡ window_at (trace_of v) n
  by-recursion n lt = at_place n lt ∙ sym (window-wsocc (trace_of v) (windowed v asked.0) n)

  -- so the next after the window w adds the intervals longer than w steps
  next-at : (w : ℕ) → 1 ≤ w → w < steps (trace_of v) → get_or list w 0 ≡ get_or list (w - 1) 0 + longer_than (trace_of v) w
  unfolding window_at
  next-at zero one lt = absurd (omega arith)
  next-at (suc n) one lt =
      let before : suc n - 1 ≡ n = omega arith in
      rw before (by-recursion (suc n) lt ∙ ap (λ (m : ℕ). m + longer_than (trace_of v) (suc n)) (sym (by-recursion n (omega arith))))

  pub windows-from-bytes : WindowsFromBytes s v list
  unfolding wsoccs window_at row_figures
  windows-from-bytes =
      record {
        verdict = asked.0;
        windowed = windowed v asked.0;
        counted = ap length asked.1 ∙ length-tabulate (steps (trace_of v)) (λ m. wsocc (trace_of v) m 1);
        number = λ w one within. at_place (w - 1) (omega arith);
        row = λ r lt one within. at_place (row_at v r).h within
            ∙ ap (λ (d : ℕ). wsocc (trace_of v) (row_at v r).h d) (sym one)
            ∙ sym (ap (λ a. (figures_given a).wsocc) (figures_are s v reads r lt));
        first = λ some. by-recursion 0 some;
        next = next-at;
      }
