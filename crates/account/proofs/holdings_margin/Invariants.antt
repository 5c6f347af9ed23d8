use Rattle.account.specs.Walk.{ready_at, comes_at}
use Rattle.account.specs.SumLaws.{Summing}
use Rattle.account.proofs.holdings_margin.Given as goal

abbrev pub invariant-loop-i : goal.invariant-loop-i
invariant-loop-i l = Summing (ready_at l.rows l.quotes) (comes_at l.rows l.quotes) l.i l.sum
