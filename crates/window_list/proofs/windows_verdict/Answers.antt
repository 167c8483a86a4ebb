-- `window_list::windows_verdict` meets its contract: the kind and a are tested, then the sizes and the warm segments.
use mathlib.Core.Path.{◌∙◌}
use lib.ListN.{take}
use Rattle.model.specs.Values.{head_value_of, value_of}
use Rattle.model.proofs.Standing.{warm-counted}
use Rattle.replacement.specs.Answers.{ones_verdict}
use Rattle.windows.specs.Answers.{time_zero}
use Rattle.window_list.proofs.Answers.{and-first}
use Rattle.window_list.proofs.windows_verdict.Goals as goal

pub returns : goal.returns
unfolding value_of head_value_of
returns c =
    rw (warm-counted c.args.s c.requires)
    (c.and.ensures ∙ rw (c.time_zero-time.ensures, c.ones_verdict-ones.ensures) (and-first (time_zero c.args.s.head.kind c.args.s.head.a)
    (ones_verdict (take c.args.s.head.segs c.args.s.head.sizes) c.args.s.head.warm)))
