use Rattle.lines.specs.RunLaws.{RunTo}
use Rattle.lines.proofs.run_at.Given as goal

abbrev pub invariant-loop-stop : goal.invariant-loop-stop
invariant-loop-stop l = RunTo l.t l.from l.most l.end l.number l.stop
