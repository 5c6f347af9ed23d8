use Rattle.account.specs.SumLaws.{Summing}
use Rattle.account.specs.Walk.{pair_ready_at, pair_comes_at}
use Rattle.account.proofs.pairs_margin.Given as goal

abbrev pub invariant-loop-j : goal.invariant-loop-j
invariant-loop-j l = Summing (pair_ready_at l.quotes l.firsts l.seconds l.pairs) (pair_comes_at l.quotes l.firsts l.seconds l.pairs l.charged) l.j l.sum
