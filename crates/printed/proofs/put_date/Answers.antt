use Rattle.printed.specs.PlacedLaws.{field_placed, date_placed}
use Rattle.printed.proofs.put_date.Goals as goal

pub returns : goal.returns
returns c = field_placed c.put_byte-a.ensures (date_placed _ c.put_eight.ensures)
