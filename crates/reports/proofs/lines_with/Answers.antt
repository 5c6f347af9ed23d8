use Rattle.std.proofs.Common.{arith}
use Rattle.lines.specs.LoopLaws.{ends_low}
use Rattle.reports.specs.CountLaws.{counting_starts, counts_one, counts_none, counts_all}
use Rattle.reports.proofs.lines_with.Goals as goal
use Rattle.reports.proofs.lines_with.Goals.{then-t-at, else-t-at}

pub loop-letter-init : goal.loop-letter-init
loop-letter-init c = counting_starts _ _

pub returns-then-t-end : goal.returns-then-t-end
returns-then-t-end c = counts_all c.loop-letter.invariant c.next-end.ensures c.if-t-end.true

pub bounds-t-at : goal.bounds-t-at
bounds-t-at c = omega (arith, ends_low _ _ _ c.next-end.ensures)

pub overflow_add-count : goal.overflow_add-count
overflow_add-count c = omega (arith, ends_low _ _ _ c.next-end.ensures)

pub loop-letter-smaller : goal.loop-letter-smaller
loop-letter-smaller c = omega (arith, ends_low _ _ _ c.next-end.ensures)

pub loop-letter-preserved : goal.loop-letter-preserved
loop-letter-preserved c =
    let g = c.loop-letter.invariant in
    let is = c.next-end.ensures in
    let lt = c.if-t-end.false in
    elim c.if-t-at.branch [
      | then-t-at w ↦ rw w.count-is (counts_one g is lt w.if-t-at.true)
      | else-t-at w ↦ rw w.count-is (counts_none g is lt w.if-t-at.false)
    ]
