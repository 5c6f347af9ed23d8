use Rattle.std.proofs.Common.{arith}
use Rattle.put.specs.PutLaws.{put_is}
use Rattle.put.specs.LineLaws.{fixed_few}
use Rattle.printed.specs.PrintedLaws.{head_fits}
use Rattle.printed.specs.Printed.{head_text}
use Rattle.printed.specs.PlacedLaws.{placed, placed_then, room_left, field_placed, fields_placed, line_placed}
use Rattle.printed.proofs.put_head.Goals as goal

pub put_mark-d-requires : goal.put_mark-d-requires
put_mark-d-requires c = room_left (placed_then c.put_byte-a.ensures (placed_then c.put_byte-b.ensures (placed (put_is c.put_fixed-c.ensures) (fixed_few 7 _)))) 2 (omega arith)

pub put_date-e-requires : goal.put_date-e-requires
put_date-e-requires c = room_left (placed_then c.put_byte-a.ensures (placed_then c.put_byte-b.ensures (placed_then (placed (put_is c.put_fixed-c.ensures) (fixed_few 7 _)) c.put_mark-d.ensures))) 9 (omega arith)

pub put_byte-requires : goal.put_byte-requires
put_byte-requires c = room_left (placed_then c.put_byte-a.ensures (placed_then c.put_byte-b.ensures (placed_then (placed (put_is c.put_fixed-c.ensures) (fixed_few 7 _)) (placed_then c.put_mark-d.ensures c.put_date-e.ensures)))) 1 (omega arith)

pub returns : goal.returns
unfolding head_text
returns c =
    rw (← c.from.ensures)
    (line_placed _ (head_fits _ _ _) c.put_byte-a.ensures
    (fields_placed _ _ (field_placed c.put_byte-b.ensures (placed (put_is c.put_fixed-c.ensures) (fixed_few 7 _))) (fields_placed _ _ c.put_mark-d.ensures c.put_date-e.ensures))
    c.put_byte.ensures)
