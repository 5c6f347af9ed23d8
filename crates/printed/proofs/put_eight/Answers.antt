use Rattle.printed.specs.PlacedLaws.{fixed_placed}
use Rattle.printed.proofs.put_eight.Goals as goal

pub returns : goal.returns
returns c = fixed_placed _ 4 4 c.put_four-a.ensures c.put_four.ensures
