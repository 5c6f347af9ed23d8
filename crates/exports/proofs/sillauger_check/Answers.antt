use Rattle.exports.specs.Exports.{check_coded}
use Rattle.exports.proofs.sillauger_check.Goals as goal

pub returns : goal.returns
unfolding check_coded
returns c = rw c.check-v.ensures at c.code_of.ensures
