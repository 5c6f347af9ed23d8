use Rattle.std.proofs.Common.{arith, ◌≡◌}
use Rattle.std.proofs.lemmas.Grind.{common_steps}
use Rattle.laws.specs.Refusals.{number_in}
use Rattle.exports.specs.ExportLaws.{run_starts, run_on, run_ends}
use Rattle.exports.proofs.run_calls.Goals as goal

pub loop-i-init : goal.loop-i-init
loop-i-init c = run_starts _ _ _ _

pub loop-i-preserved : goal.loop-i-preserved
loop-i-preserved c =
    let n : c.map_or.result ≡ number_in c.call_said-answer.result = grind (arith, common_steps) in
    rw n (run_on c.loop-i.invariant c.loop-i-test.true c.call_said-answer.ensures)

pub returns : goal.returns
returns c = run_ends c.loop-i.invariant c.loop-i-test.false
