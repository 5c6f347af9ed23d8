use Rattle.put.specs.PutLaws.{Falling}
use Rattle.put.proofs.put_fixed.Given as goal

abbrev pub invariant-loop-i : goal.invariant-loop-i
invariant-loop-i l = Falling l.initial.dst l.at l.width l.n l.dst l.i l.m
