use Rattle.std.proofs.Common.{◌∙◌}
use Rattle.book_lines.specs.NumberLaws.{pair_checks_are, head_numbered, holding_numbered, pair_numbered, unsaid_numbered}
use Rattle.book_lines.proofs.check_line.Goals as goal

pub returns-in-65 : goal.returns-in-65
returns-in-65 c = head_numbered _ _ _ _ _ _ _ c.in-65.is c.check_head.ensures

pub returns-in-72 : goal.returns-in-72
returns-in-72 c = holding_numbered _ _ _ _ _ _ _ c.in-72.is c.holding_of.ensures c.check_holding.ensures

pub returns-in-77 : goal.returns-in-77
returns-in-77 c = pair_numbered _ _ _ _ _ _ _ c.in-77.is c.pair_of.ensures (c.check_pair.ensures ∙ pair_checks_are _ _ _ _ _)

pub returns-in_default : goal.returns-in_default
returns-in_default c = let n = c.in_default.in_default-own.rest in unsaid_numbered _ _ _ _ _ _ _ n.0.0.1 n.0.1 n.1
