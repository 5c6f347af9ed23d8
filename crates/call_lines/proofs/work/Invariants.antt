use Rattle.std.proofs.Common.{length, ◌-◌}
use Rattle.call_lines.specs.WorkLaws.{Working}
use Rattle.call_lines.proofs.work.Given as goal

abbrev pub invariant-loop-at : goal.invariant-loop-at
invariant-loop-at l = Working 65536 l.initial.book l.t l.book l.numbers l.count l.at

abbrev pub decreases-loop-at : goal.decreases-loop-at
decreases-loop-at l = length l.t - l.at
