use Rattle.std.proofs.Common.{arith}
use Rattle.digits.specs.FigureLaws.{counting_starts, counts_on, counts_out}
use Rattle.digits.proofs.width_of.Goals as goal

pub loop-m-init : goal.loop-m-init
loop-m-init c = counting_starts _ (omega arith)

pub loop-m-preserved : goal.loop-m-preserved
loop-m-preserved c = counts_on c.loop-m.invariant c.loop-m-test.true

pub returns : goal.returns
returns c = counts_out c.loop-m.invariant c.loop-m-test.false
