-- What the exported call for the misses by stack distances returns and leaves in what it is lent.
use Rattle.std.specs.Prelude.{ℕ, ◌≡◌, List}
use Rattle.model.specs.Places.{answer_for}
use Rattle.analyser.specs.Curves.{lru_result, lru_looked}
use Rattle.exports.specs.Exported.{or_old, PlaceCall}

-- a call that writes a list into a lent place, and a second lent number, which becomes the entries looked at
pub record LruCall (s place place' : List ℕ) (written written' looked looked' returned : ℕ) : Type 0 where
  pub placed : PlaceCall (lru_result s) place place' written written' returned
  pub looked_is : looked' ≡ or_old (λ n. lru_looked s place) (answer_for (lru_result s) place) looked
