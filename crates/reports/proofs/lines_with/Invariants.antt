use Rattle.std.proofs.Common.{length, ◌-◌}
use Rattle.reports.specs.CountLaws.{Counting}
use Rattle.reports.proofs.lines_with.Given as goal

abbrev pub invariant-loop-letter : goal.invariant-loop-letter
invariant-loop-letter l = Counting l.t l.letter l.at l.count

abbrev pub decreases-loop-letter : goal.decreases-loop-letter
decreases-loop-letter l = length l.t - l.at
