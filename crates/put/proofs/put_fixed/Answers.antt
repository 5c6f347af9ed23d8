use Rattle.put.specs.PutLaws.{put_is, put_says, put_behind, falling_starts, falls_on, falls_end}
use Rattle.put.proofs.put_fixed.Goals as goal

pub returns-then-dst-at : goal.returns-then-dst-at
returns-then-dst-at c = put_says (put_behind _ _ _ c.if-dst-at.true)

pub loop-i-init : goal.loop-i-init
loop-i-init c = rw c.from-i.ensures (falling_starts _ _ _ _)

pub loop-i-preserved : goal.loop-i-preserved
loop-i-preserved c = falls_on c.loop-i.invariant c.loop-i-test.true (put_is c.put_byte.ensures)

pub returns : goal.returns
returns c = put_says (falls_end c.loop-i.invariant c.loop-i-test.false c.from.ensures c.min.ensures)
