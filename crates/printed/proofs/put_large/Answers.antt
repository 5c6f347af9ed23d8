use Rattle.std.proofs.Common.{arith}
use Rattle.printed.specs.PlacedLaws.{wider, number_placed}
use Rattle.printed.proofs.put_large.Goals as goal

pub returns-then-n-lt10000 : goal.returns-then-n-lt10000
returns-then-n-lt10000 c = wider c.put_middle.ensures (omega arith)

pub returns : goal.returns
returns c = number_placed _ 4 (omega arith) c.if-n-lt10000.false (omega arith) c.put_middle-a.ensures c.put_four.ensures
