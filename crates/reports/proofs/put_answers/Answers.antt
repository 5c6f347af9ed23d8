use Rattle.reports.specs.DeskLaws.{say_starts, say_on, say_ends}
use Rattle.reports.proofs.put_answers.Goals as goal

pub loop-i-init : goal.loop-i-init
loop-i-init c = say_starts _ _ _ c.requires.0

pub loop-i-preserved : goal.loop-i-preserved
loop-i-preserved c = say_on c.loop-i.invariant c.loop-i-test.true c.put_answer-end.ensures

pub shape_of-dst : goal.shape_of-dst
shape_of-dst c = c.loop-i.invariant.same

pub returns : goal.returns
returns c = say_ends c.loop-i.invariant c.loop-i-test.false
