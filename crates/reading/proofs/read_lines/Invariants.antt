use Rattle.std.proofs.Common.{length, ◌-◌, ◌≡◌}
use Rattle.book_lines.specs.ItemLaws.{AtPart}
use Rattle.reading.specs.StateLaws.{Lasts}
use Rattle.reading.specs.StepLaws.{AtLine}
use Rattle.reading.proofs.read_lines.Given as goal

abbrev pub invariant-fields : goal.invariant-fields
invariant-fields l = AtPart l.t l.at l.letter l.items l.k l.stop

abbrev pub decreases-fields : goal.decreases-fields
decreases-fields l = length l.t - l.stop

abbrev pub invariant-lines : goal.invariant-lines
invariant-lines l =
    (AtLine l.t l.book l.highs l.lows l.free l.line l.at) × ((Lasts l.book l.last l.newest) × (length l.items ≡ 6))

abbrev pub decreases-lines : goal.decreases-lines
decreases-lines l = length l.t - l.at
