use Rattle.std.proofs.Common.{◌≡◌, take}
use Rattle.lists.specs.Slots.{slot_of}
use Rattle.lists.specs.SlotLaws.{slot_from}
use Rattle.places.proofs.find.Given as goal

abbrev pub invariant-loop-i : goal.invariant-loop-i
invariant-loop-i g l = slot_of g.R.Row.rank (g.R.Row.rank l.row) (take l.live l.rows) ≡ slot_from g.R.Row.rank (g.R.Row.rank l.row) l.rows l.live l.i
