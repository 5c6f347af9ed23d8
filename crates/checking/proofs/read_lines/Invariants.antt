use Rattle.std.proofs.Common.{length, ◌-◌, ◌≡◌}
use Rattle.checking.specs.StepLaws.{AtLine, InRow}
use Rattle.checking.specs.QuoteLaws.{Headed}
use Rattle.price_lines.specs.Heads.{head_of}
use Rattle.checking.proofs.read_lines.Given as goal

abbrev pub invariant-fields : goal.invariant-fields
invariant-fields l = InRow l.t l.sheet l.last l.before l.line l.at l.initial.stop l.letter l.cells l.k l.stop

abbrev pub decreases-fields : goal.decreases-fields
decreases-fields l = length l.t - l.stop

abbrev pub invariant-lines : goal.invariant-lines
invariant-lines l = (AtLine l.t l.sheet l.last l.before l.line l.at) × ((length l.cells ≡ 12) × Headed l.t (head_of l.head) l.last l.before)

abbrev pub decreases-lines : goal.decreases-lines
decreases-lines l = length l.t - l.at
