-- `window_list::window_pass::windows` meets its contract: a place too short for the list is refused and stays, else the list stands at its
-- head.
use native.Mathlib.Omega.{arith}
use Rattle.model.specs.Traces.{Trace}
use Rattle.model.proofs.Places.{text-short, text-fits}
use Rattle.windows.specs.Windows.{window_run, window_list}
use Rattle.windows.proofs.Windows.{list_length_lem}
use Rattle.window_list.proofs.window_pass.windows.Goals.{Start}
use Rattle.window_list.proofs.window_pass.windows.Goals as goal

-- the run
abbrev runIn : Start → Trace
runIn s = window_run s.args.sizes.now s.args.refs.now

pub returns-then-out-refs : goal.returns-then-out-refs
returns-then-out-refs c =
    text-short (window_list (window_run c.args.sizes.now c.args.refs.now)) c.args.out.now
    (omega (arith, list_length_lem (window_run c.args.sizes.now c.args.refs.now), c.if-out-refs.true))

pub returns : goal.returns
returns c =
    rw c.write_windows.ensures
    (text-fits (window_list (window_run c.args.sizes.now c.args.refs.now)) c.args.out.now
    (list_length_lem (window_run c.args.sizes.now c.args.refs.now))
    (omega (arith, c.if-out-refs.false)))
