use Rattle.std.proofs.Common.{arith}
use Rattle.std.proofs.lemmas.Grind.{common_steps}
use Rattle.rows.specs.Book.{holdings_of}
use Rattle.calls.specs.NumberLaws.{open_says}
use Rattle.moves.proofs.open_check.Goals as goal

pub returns-in_err-ensure-3 : goal.returns-in_err-ensure-3
unfolding holdings_of
returns-in_err-ensure-3 c = rw (open_says _ _ _ _) (grind (arith, common_steps))
