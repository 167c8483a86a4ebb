-- `sheets::write` meets its contract: the writer's own says the same.
use Rattle.analyser.proofs.sheets.write.Goals as goal

pub returns : goal.returns
returns c = c.write.ensures
