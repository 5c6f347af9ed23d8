use Rattle.printed.specs.PlacedLaws.{field_placed}
use Rattle.printed.proofs.put_mark.Goals as goal

pub returns : goal.returns
returns c = field_placed c.put_byte-a.ensures c.put_byte.ensures
