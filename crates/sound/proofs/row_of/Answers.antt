use Rattle.sound.specs.LegLaws.{row_sought}
use Rattle.sound.proofs.row_of.Goals as goal

pub returns : goal.returns
returns c = row_sought _ c.leg_key-k.ensures c.find.ensures
