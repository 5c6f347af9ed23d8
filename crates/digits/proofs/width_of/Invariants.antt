use Rattle.digits.specs.FigureLaws.{Counting}
use Rattle.digits.proofs.width_of.Given as goal

abbrev pub invariant-loop-m : goal.invariant-loop-m
invariant-loop-m l = Counting l.n l.w l.m

abbrev pub decreases-loop-m : goal.decreases-loop-m
decreases-loop-m l = l.m
