use Rattle.reports.specs.DeskLaws.{Saying}
use Rattle.reports.proofs.put_answers.Given as goal

abbrev pub invariant-loop-i : goal.invariant-loop-i
invariant-loop-i l = Saying l.initial.dst l.at l.numbers l.dst l.end l.i
