use Rattle.account.specs.Margin.{margin_text}
use Rattle.reports.proofs.margin_of.Goals as goal

pub returns : goal.returns
unfolding margin_text
returns c = rw c.read.ensures at c.margin_on.ensures
