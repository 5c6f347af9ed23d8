use Rattle.std.proofs.Common.{◌∙◌}
use Rattle.reading.specs.StepLaws.{text_long, text_empty, text_read}
use Rattle.reading.proofs.read.Goals as goal

pub returns-then-t-gt16384 : goal.returns-then-t-gt16384
returns-then-t-gt16384 c = c.refused.ensures ∙ text_long _ c.if-t-gt16384.true

pub returns-then-t-eq0 : goal.returns-then-t-eq0
returns-then-t-eq0 c = c.refused-then-t-eq0.ensures ∙ text_empty _ c.if-t-gt16384.false c.if-t-eq0.true

pub returns : goal.returns
returns c = c.read_lines.ensures ∙ text_read _ c.if-t-gt16384.false c.if-t-eq0.false
