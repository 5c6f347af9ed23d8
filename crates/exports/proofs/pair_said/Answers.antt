use Rattle.exports.specs.ExportLaws.{pair_is}
use Rattle.exports.proofs.pair_said.Goals as goal

pub returns : goal.returns
returns c = pair_is _ _ c.word.ensures c.series_said.ensures c.series_said-2.ensures c.word-2.ensures c.word-3.ensures c.word-4.ensures
