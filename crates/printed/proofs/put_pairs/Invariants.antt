use Rattle.std.proofs.Common.{length}
use Rattle.printed.specs.Printed.{pair_text}
use Rattle.printed.specs.PlacedLaws.{Rows}
use Rattle.printed.proofs.put_pairs.Given as goal

abbrev pub invariant-loop-row : goal.invariant-loop-row
invariant-loop-row l = Rows pair_text l.rows (length l.rows) 71 l.initial.dst l.at l.dst l.end l.row-index
