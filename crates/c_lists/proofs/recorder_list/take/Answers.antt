-- `c_lists::recorder_list::take` meets its contract.
use Rattle.c_lists.proofs.InPlace.{taken_is}
use Rattle.c_lists.proofs.recorder_list.take.Goals as goal

pub returns : goal.returns
returns c =
    let a = c.args in
    taken_is a.list.now a.segment a.steps _ _ c.touch_now-x.ensures.within c.touch_now-x.ensures.exact c.file.ensures
