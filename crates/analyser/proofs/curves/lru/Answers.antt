-- `curves::lru` meets its contract: what the sheet reads as decides.
use Rattle.analyser.proofs.Asked.{handed-on}
use Rattle.analyser.proofs.LookedAt.{lru-refused, lru-accepted}
use Rattle.sheet.proofs.Accepting.{stands}
use Rattle.analyser.proofs.curves.lru.Goals as goal

pub sheet_curve-requires : goal.sheet_curve-requires
sheet_curve-requires c = stands _ _ c.in_ok-sheet.ensures

pub returns-in_err-sheet : goal.returns-in_err-sheet
returns-in_err-sheet c =
    lru-refused c.args.bytes.now c.args.out.now (handed-on _ _ c.from_residual.ensures.1) c.in_err-sheet.ensures

pub returns : goal.returns
returns c = lru-accepted c.args.bytes.now c.sheet_curve.ensures c.in_ok-sheet.ensures
