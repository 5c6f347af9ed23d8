use Rattle.std.proofs.Common.{arith}
use Rattle.printed.specs.PlacedLaws.{field_placed, two_letters, three_letters}
use Rattle.printed.proofs.put_letters.Goals as goal

pub returns-then-code-eq0 : goal.returns-then-code-eq0
returns-then-code-eq0 c = field_placed c.put_byte-a.ensures (two_letters c.args.code (omega arith) c.if-code-eq0.true c.put_byte-b.ensures c.put_byte-c.ensures)

pub returns : goal.returns
returns c = field_placed c.put_byte-a.ensures (three_letters c.args.code (omega arith) c.if-code-eq0.false c.put_byte-b.ensures c.put_byte-c.ensures c.put_byte.ensures)
