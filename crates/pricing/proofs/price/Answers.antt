-- `price` meets its contract: the mask of the warm segments is lent whole.
use Prim.Native.Nat.{ℕ, ◌/◌, ◌%◌}
use mathlib.Core.Path.{ap, ◌∙◌}
use mathlib.Core.List.{List}
use lib.ListN.{get_or}
use Rattle.model.specs.Schedules.{bit}
use Rattle.schedule.proofs.StartMasks.{start_mask-bit}
use Rattle.pricing.proofs.price.Goals as goal

pub price_from-requires-clause-start_is : goal.price_from-requires-clause-start_is
price_from-requires-clause-start_is c = (
  c.start_words.ensures.whole,
  λ i lt.
      c.start_words.ensures.bits i lt
      ∙ ap (λ (l : List ℕ). bit (get_or l (i / 8) 0) (i % 8)) c.start_mask-mask.ensures
      ∙ start_mask-bit c.args.run.now.warm.now i lt,
)
