use Rattle.reports.specs.DeskLaws.{answer_none, answer_some}
use Rattle.reports.proofs.put_answer.Goals as goal

pub returns-then-number-eq0 : goal.returns-then-number-eq0
returns-then-number-eq0 c = answer_none _ _ _ _ c.if-number-eq0.true c.requires

pub returns : goal.returns
returns c = answer_some _ _ _ _ c.if-number-eq0.false c.put_refusal.ensures
