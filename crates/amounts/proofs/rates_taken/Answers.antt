use Rattle.levels.specs.LevelLaws.{rates_got}
use Rattle.amounts.proofs.rates_taken.Goals as goal

pub returns : goal.returns
returns c = rates_got _ _ _ _ c.requires c.stock_rates.ensures c.unwrap.ensures
