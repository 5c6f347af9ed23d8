use Rattle.reading.proofs.take_legs.Goals as goal

pub returns : goal.returns
returns c = rw c.take_lots.ensures at c.take_lots-2.ensures
