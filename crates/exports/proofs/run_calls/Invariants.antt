use Rattle.std.proofs.Common.{length, ◌/◌}
use Rattle.exports.specs.ExportLaws.{Running}
use Rattle.exports.proofs.run_calls.Given as goal

abbrev pub invariant-loop-i : goal.invariant-loop-i
invariant-loop-i l = Running l.words (length l.words / 13) l.initial.b l.initial.numbers l.numbers l.b l.i
