-- `point_list::sheet_points` meets its contract: the run of the sheet's value is handed on.
use Rattle.model.specs.Values.{head_value_of, value_of}
use Rattle.points.specs.Answers.{points_for}
use Rattle.point_list.proofs.sheet_points.Goals as goal

-- the limits of a run ask nothing of its warm segments
pub points-requires : goal.points-requires
unfolding value_of head_value_of
points-requires c =
    let run = c.requires.valid.run in
    record {
      a_within = run.a_within;
      some_segs = run.some_segs;
      segs_within = run.segs_within;
      some_size = run.some_size;
      size_within = run.size_within;
      steps_within = run.steps_within;
      entry_within = run.entry_within;
    }

pub returns : goal.returns
unfolding points_for value_of head_value_of
returns c = c.points.ensures
