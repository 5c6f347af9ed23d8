use Rattle.std.proofs.Common.{◌≡◌}
use Rattle.account.specs.Margin.{margin_on}
use Rattle.exports.proofs.stated.Given as goal

abbrev pub invariant-loop : goal.invariant-loop
invariant-loop l = l.m ≡ margin_on l.b l.s
