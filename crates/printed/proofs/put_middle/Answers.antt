use Rattle.std.proofs.Common.{arith}
use Rattle.printed.specs.PlacedLaws.{wider, number_placed}
use Rattle.printed.proofs.put_middle.Goals as goal

pub returns-then-n-lt100 : goal.returns-then-n-lt100
returns-then-n-lt100 c = wider c.put_small.ensures (omega arith)

pub returns : goal.returns
returns c = number_placed _ 2 (omega arith) c.if-n-lt100.false (omega arith) c.put_small-a.ensures c.put_two.ensures
