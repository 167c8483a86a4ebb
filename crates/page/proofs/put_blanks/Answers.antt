-- `page::put_blanks` meets its contract: the part that is filled has as many blanks.
use mathlib.Core.Path.{◌≡◌}
use native.Mathlib.Omega.{arith}
use borrow.Author.Rules.{rules}
use lib.ListN.{length, length-replicate}
use Rattle.text.proofs.Putting.{put_copied}
use Rattle.page.specs.Page.{blank, blanks}
use Rattle.page.proofs.put_blanks.Goals as goal

pub returns : goal.returns
returns c =
    let a = c.args in
    let n : length (blanks a.n) ≡ a.n = length-replicate a.n blank in
    record {
      put = put_copied (blanks a.n) a.at a.out.now (omega arith) (omega arith) (omega arith) (search rules);
      wide = omega arith;
    }
