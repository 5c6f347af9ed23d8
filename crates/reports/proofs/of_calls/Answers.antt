use Rattle.std.proofs.Common.{arith, sym, ℕ}
use lib.ListN.{length-replicate}
use Rattle.reports.specs.DeskLaws.{room_enough, desk_whole}
use Rattle.reports.proofs.of_calls.Goals as goal

pub slice_bounds-put_desk-end : goal.slice_bounds-put_desk-end
slice_bounds-put_desk-end c = sym (length-replicate {A = ℕ} 737280 0)

pub put_desk-length-requires : goal.put_desk-length-requires
put_desk-length-requires c = room_enough 737280 (omega arith)

pub returns : goal.returns
returns c = desk_whole _ _ c.put_desk-length.ensures
