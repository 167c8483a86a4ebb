-- `window_list::sheet_windows` meets its contract: the head is tested, and the list of the sheet's value is written.
use Rattle.std.specs.Prelude.{Ok}
use mathlib.Core.Path.{◌≡◌, sym, ◌∙◌}
use Rattle.std.proofs.lemmas.Result.{err_from_is_err_and}
use Rattle.model.specs.Values.{head_value_of, value_of}
use Rattle.windows.specs.Answers.{windows_verdict}
use Rattle.window_list.proofs.Answers.{windows-refused, windows-within, windows-given}
use Rattle.window_list.proofs.sheet_windows.Goals.{In_ok-windows_verdict}
use Rattle.window_list.proofs.sheet_windows.Goals as goal

-- where the list is written, the head is accepted
accepted : (c : In_ok-windows_verdict) → windows_verdict (value_of c.args.s).head ≡ (Ok tt)
accepted c = sym c.windows_verdict.ensures ∙ c.in_ok-windows_verdict.was

pub returns-in_err-windows_verdict : goal.returns-in_err-windows_verdict
returns-in_err-windows_verdict c =
    let p = err_from_is_err_and c.from_residual.result c.from_residual.ensures.1 in
    windows-refused (value_of c.args.s) _ _ (sym c.windows_verdict.ensures ∙ c.in_err-windows_verdict.was) (p.1 ∙ rw p.2)

pub windows-requires : goal.windows-requires
unfolding value_of head_value_of
windows-requires c =
    windows-within (value_of c.args.s) (accepted (goal.at.windows-requires c).In_ok-windows_verdict) c.requires.valid.run

pub returns : goal.returns
unfolding value_of head_value_of
returns c = windows-given (value_of c.args.s) (accepted (goal.at.returns c).In_ok-windows_verdict) c.windows.ensures
