use Rattle.levels.specs.LevelLaws.{or_zeros}
use Rattle.account.specs.Walk.{pair_comes}
use Rattle.account.proofs.pair_comes.Goals as goal

pub multiply-requires : goal.multiply-requires
unfolding pair_comes
multiply-requires c = rw (or_zeros _ c.unit_margin-unit.ensures c.same_at_all.ensures c.unwrap_or-margin.ensures) c.requires

pub returns : goal.returns
unfolding pair_comes
returns c = rw (or_zeros _ c.unit_margin-unit.ensures c.same_at_all.ensures c.unwrap_or-margin.ensures) at c.multiply.ensures
