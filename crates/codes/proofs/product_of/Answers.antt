use Rattle.std.proofs.Common.{ap, sym, ◌∙◌}
use Rattle.laws.specs.ByteLaws.{as_pointwise}
use Rattle.codes.specs.CodeLaws.{product_marked, marked_line, no_marked_line}
use Rattle.codes.proofs.product_of.Goals as goal

pub returns-then-eq : goal.returns-then-eq
returns-then-eq c = marked_line _ (c.product_marked-line.ensures ∙ ap product_marked c.mark_of.ensures) (as_pointwise _ _ ∙ sym c.eq.ensures ∙ c.if-eq.true)

pub returns : goal.returns
returns c = c.unlisted_code.ensures ∙ no_marked_line _ (c.product_marked-line.ensures ∙ ap product_marked c.mark_of.ensures) (as_pointwise _ _ ∙ sym c.eq.ensures ∙ c.if-eq.false)
