use Rattle.printed.specs.PlacedLaws.{two_placed}
use Rattle.printed.proofs.put_two.Goals as goal

pub returns : goal.returns
returns c = two_placed _ c.requires.1 c.put_byte-a.ensures c.put_byte.ensures
