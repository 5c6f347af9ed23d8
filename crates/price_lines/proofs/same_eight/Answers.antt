use Rattle.std.proofs.Common.{arith, ◌∙◌}
use Rattle.price_lines.specs.SameLaws.{same_slices}
use Rattle.price_lines.proofs.same_eight.Goals as goal

pub returns : goal.returns
returns c = c.eq.ensures ∙ same_slices _ _ _ 8 (omega arith) (omega arith) c.requires.0 c.requires.1
