use Rattle.printed.specs.PrintedLaws.{holding_fits}
use Rattle.printed.specs.Printed.{holding_text}
use Rattle.printed.specs.PlacedLaws.{fields_placed, line_placed}
use Rattle.printed.proofs.put_holding.Goals as goal

pub returns : goal.returns
unfolding holding_text
returns c =
    line_placed _ (holding_fits _ c.requires.0) c.put_byte-a.ensures
    (fields_placed _ _ c.put_series-b.ensures (fields_placed _ _ c.put_figure-c.ensures c.put_figure-d.ensures))
    c.put_byte.ensures
