use Rattle.sound.specs.LegLaws.{Placing, pairs_test}
use Rattle.sound.proofs.places_of.Given as goal

abbrev pub invariant-loop-i : goal.invariant-loop-i
invariant-loop-i l = Placing l.highs l.lows l.held l.pairs l.paired (pairs_test l.highs l.lows l.held l.pairs l.paired) l.i l.firsts l.seconds
