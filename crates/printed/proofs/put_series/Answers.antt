use Rattle.printed.specs.PlacedLaws.{series_placed}
use Rattle.printed.proofs.put_series.Goals as goal

pub returns : goal.returns
returns c = series_placed _ c.letter_of.ensures c.strike_of.ensures c.put_letters-a.ensures c.put_date-b.ensures c.put_mark-c.ensures c.put_figure.ensures
