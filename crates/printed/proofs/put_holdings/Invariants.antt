use Rattle.std.proofs.Common.{length}
use Rattle.printed.specs.Printed.{holding_text}
use Rattle.printed.specs.PlacedLaws.{Rows}
use Rattle.printed.proofs.put_holdings.Given as goal

abbrev pub invariant-loop-row : goal.invariant-loop-row
invariant-loop-row l = Rows holding_text l.rows (length l.rows) 42 l.initial.dst l.at l.dst l.end l.row-index
