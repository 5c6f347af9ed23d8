use Rattle.std.proofs.Common.{[], length, min, ◌++◌, ◌∷◌, ◌≡◌, ◌≤◌}
use Rattle.lists.specs.Places.{insert_at}
use Rattle.places.proofs.remove.Given as goal

abbrev pub invariant-loop-i : goal.invariant-loop-i
invariant-loop-i g l = (min l.at (length l.initial.rows) ≤ l.i) × (insert_at l.i l.carry l.rows ≡ l.initial.rows ++ l.initial.carry ∷ [])
