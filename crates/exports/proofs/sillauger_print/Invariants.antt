use Rattle.std.proofs.Common.{◌≡◌}
use Rattle.printed.specs.Printed.{printed_in}
use Rattle.exports.proofs.sillauger_print.Given as goal

abbrev pub invariant-loop : goal.invariant-loop
invariant-loop l = (printed_in l.p ≡ printed_in l.initial.p) × (l.out ≡ l.initial.out)
