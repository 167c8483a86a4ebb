-- The run that the functions on schedules are given.
use Rattle.model.specs.Sheets.{run_of}
use Rattle.model.specs.Traces.{Trace}
use Rattle.schedule.specs.declared.Run.{Run}

-- what a run at hand says
abbrev pub trace : Run → Trace
trace run = run_of run.kind run.a run.sizes.now run.warm.now run.refs.now
