use Rattle.std.proofs.Common.{arith, ◌≡◌}
use Rattle.std.proofs.lemmas.Grind.{common_steps}
use Rattle.laws.specs.Refusals.{number_in}
use Rattle.call_lines.specs.WorkLaws.{work_starts, number_room, work_on, next_less, too_long, all_worked}
use Rattle.call_lines.proofs.work.Goals as goal

pub returns-then-t-gt65536 : goal.returns-then-t-gt65536
returns-then-t-gt65536 c = too_long _ _ c.if-t-gt65536.true

pub loop-at-init : goal.loop-at-init
loop-at-init c = work_starts _ _ _

pub bounds-numbers-count : goal.bounds-numbers-count
bounds-numbers-count c = number_room c.loop-at.invariant c.if-t-gt65536.false c.loop-at-test.true

pub loop-at-smaller : goal.loop-at-smaller
loop-at-smaller c = next_less c.loop-at.invariant c.if-t-gt65536.false c.loop-at-test.true c.next_line-at.ensures

pub loop-at-preserved : goal.loop-at-preserved
loop-at-preserved c =
    let n : c.map_or.result ≡ number_in c.answer_at-answer.result = grind (arith, common_steps) in
    rw n (work_on c.loop-at.invariant c.if-t-gt65536.false c.loop-at-test.true c.answer_at-answer.ensures c.next_line-at.ensures)

pub returns : goal.returns
returns c = all_worked c.loop-at.invariant c.if-t-gt65536.false c.loop-at-test.false
