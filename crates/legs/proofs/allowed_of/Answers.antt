use Rattle.std.proofs.Common.{arith, sym, ◌∙◌}
use Rattle.laws.specs.SearchLaws.{starts, found_here, not_here, none_left}
use Rattle.legs.specs.Ratios.{ratios, allowed_of}
use Rattle.legs.proofs.allowed_of.Goals as goal

pub loop-line-init : goal.loop-line-init
unfolding allowed_of
loop-line-init c = starts _ _ _ _

pub returns-then-is_named : goal.returns-then-is_named
unfolding ratios
returns-then-is_named c = c.line_allows.ensures ∙ found_here c.loop-line.invariant _ (omega arith) (sym c.is_named.ensures ∙ c.if-is_named.true)

pub loop-line-preserved : goal.loop-line-preserved
unfolding ratios
loop-line-preserved c = not_here c.loop-line.invariant _ (omega arith) (sym c.is_named.ensures ∙ c.if-is_named.false)

pub returns : goal.returns
unfolding ratios
returns c = c.own_allows.ensures ∙ none_left c.loop-line.invariant (omega arith)
