use Rattle.std.proofs.Common.{◌≡◌}
use Rattle.lists.specs.Places.{insert_at}
use Rattle.places.proofs.insert.Given as goal

abbrev pub invariant-loop-i : goal.invariant-loop-i
invariant-loop-i g l = insert_at l.i l.carry l.rows ≡ insert_at l.initial.i l.initial.carry l.initial.rows
