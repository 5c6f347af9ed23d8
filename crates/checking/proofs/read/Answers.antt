use Rattle.std.proofs.Common.{◌∙◌}
use Rattle.checking.specs.StepLaws.{text_long, text_empty, text_read}
use Rattle.checking.proofs.read.Goals as goal

pub returns-then-t-gt65536 : goal.returns-then-t-gt65536
returns-then-t-gt65536 c = c.refused.ensures ∙ text_long _ c.if-t-gt65536.true

pub returns-then-t-eq0 : goal.returns-then-t-eq0
returns-then-t-eq0 c = c.refused-then-t-eq0.ensures ∙ text_empty _ c.if-t-gt65536.false c.if-t-eq0.true

pub returns : goal.returns
returns c = c.read_lines.ensures ∙ text_read _ c.if-t-gt65536.false c.if-t-eq0.false
