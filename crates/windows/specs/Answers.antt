-- What is answered for wsocc of a sheet at every window from 1 to steps: 28, then 26, then 27, then 11 by the place.
use Rattle.std.specs.Prelude.{ℕ, cond, List, eqb, length, Result, Ok, Err}
use Rattle.model.specs.Figures.{wsocc}
use Rattle.model.specs.Sheets.{HeadValue, SheetValue, trace_of}
use Rattle.model.specs.Sums.{tabulate}
use Rattle.model.specs.Traces.{Trace, steps}
use Rattle.model.specs.declared.Kind.{Kind}
use Rattle.model.specs.declared.Kind.TheVariants.{Time, Space}
use Rattle.model.specs.declared.Refusal.{Refusal}
use Rattle.model.specs.declared.Refusal.TheVariants.{NotTimeZero}
use Rattle.model.specs.Refusals.{first_of}
use Rattle.replacement.specs.Answers.{ones_verdict, list_after}

-- 28 where the kind is not time or a is not 0
unfoldable pub time_zero : Kind → ℕ → Result (Unit {0}) Refusal
time_zero Time a = cond (eqb a 0) (Ok tt) (Err NotTimeZero)
time_zero Space a = Err NotTimeZero

-- 28, then 26 where a size is not 1, then 27 where a segment is warm
abbrev pub windows_verdict : HeadValue → Result (Unit {0}) Refusal
windows_verdict head = first_of (time_zero head.kind head.a) (ones_verdict head.sizes (length head.warm))

-- wsocc at the windows 1, 2, .., steps: at the window n + 1 the threshold is n over 1
unfoldable pub wsoccs : Trace → List ℕ
wsoccs T = tabulate (steps T) (λ n. wsocc T n 1)

-- the list of a sheet
unfoldable pub windows_for : SheetValue → Result (List ℕ) Refusal
windows_for v = list_after (windows_verdict v.head) (wsoccs (trace_of v))
