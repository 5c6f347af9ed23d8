use Rattle.printed.specs.PlacedLaws.{fixed_placed}
use Rattle.printed.proofs.put_four.Goals as goal

pub returns : goal.returns
returns c = fixed_placed _ 2 2 c.put_two-a.ensures c.put_two.ensures
