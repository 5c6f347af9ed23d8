use Rattle.printed.specs.PrintedLaws.{pair_fits}
use Rattle.printed.specs.Printed.{pair_text}
use Rattle.printed.specs.PlacedLaws.{placed_then, room_left, fields_placed, line_placed}
use Rattle.printed.proofs.put_pair.Goals as goal

pub put_byte-requires : goal.put_byte-requires
put_byte-requires c = room_left (placed_then c.put_byte-a.ensures (placed_then c.put_figure-b.ensures (placed_then c.put_series-c.ensures (placed_then c.put_series-d.ensures (placed_then c.put_figure-e.ensures (placed_then c.put_figure-f.ensures c.put_figure-g.ensures)))))) 1 c.requires.1

pub returns : goal.returns
unfolding pair_text
returns c =
    line_placed _ (pair_fits _ c.requires.0) c.put_byte-a.ensures
    (fields_placed _ _ c.put_figure-b.ensures (fields_placed _ _ c.put_series-c.ensures (fields_placed _ _ c.put_series-d.ensures (fields_placed _ _ c.put_figure-e.ensures (fields_placed _ _ c.put_figure-f.ensures c.put_figure-g.ensures)))))
    c.put_byte.ensures
