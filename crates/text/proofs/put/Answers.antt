-- `text::put` meets its contract: the bytes that are copied are the text.
use mathlib.Core.Path.{refl}
use native.Mathlib.Omega.{arith}
use borrow.Author.Rules.{rules}
use Rattle.text.proofs.Putting.{put_copied}
use Rattle.text.proofs.put.Goals as goal

pub returns : goal.returns
returns c = put_copied c.args.text.now c.args.at c.args.out.now (omega arith) refl c.requires (search rules)
