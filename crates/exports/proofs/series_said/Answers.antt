use Rattle.exports.specs.ExportLaws.{series_is}
use Rattle.exports.proofs.series_said.Goals as goal

pub returns : goal.returns
returns c = series_is _ _ c.word.ensures c.code_said-code.ensures c.word-2.ensures c.word-3.ensures c.word-4.ensures c.nature_said.ensures
