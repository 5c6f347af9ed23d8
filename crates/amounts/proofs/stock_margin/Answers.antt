use Rattle.levels.specs.LevelLaws.{halves_most}
use Rattle.amounts.proofs.stock_margin.Goals as goal

pub portions_of-requires-2 : goal.portions_of-requires-2
portions_of-requires-2 c =
    (record { price_most = c.base_price-base.ensures.1; multiplier_most = c.requires.0.shares_most }, rw c.halves.ensures (halves_most c.rates_taken-a.ensures.1))
