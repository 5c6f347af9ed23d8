use Rattle.std.proofs.Common.{◌∙◌}
use Rattle.reports.specs.StatementLaws.{line_refused, line_stated}
use Rattle.reports.proofs.line_of.Goals as goal

pub returns-then-m-ne0 : goal.returns-then-m-ne0
returns-then-m-ne0 c = c.refusal.ensures ∙ line_refused _ _ c.if-m-ne0.true

pub returns : goal.returns
returns c = c.result.ensures ∙ line_stated _ _ c.if-m-ne0.false
