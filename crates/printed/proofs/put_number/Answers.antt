use Rattle.std.proofs.Common.{arith}
use Rattle.printed.specs.PlacedLaws.{wider, number_placed}
use Rattle.printed.proofs.put_number.Goals as goal

pub returns-then-n-lt100000000 : goal.returns-then-n-lt100000000
returns-then-n-lt100000000 c = wider c.put_large.ensures (omega arith)

pub returns : goal.returns
returns c = number_placed _ 8 (omega arith) c.if-n-lt100000000.false (omega arith) c.put_small-a.ensures c.put_eight.ensures
