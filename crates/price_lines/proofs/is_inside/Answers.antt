use borrow.Author.Tests.{lt-leb}
use Rattle.price_lines.specs.TestLaws.{left_inside, not_inside}
use Rattle.price_lines.proofs.is_inside.Goals as goal

pub returns-then-at-t : goal.returns-then-at-t
returns-then-at-t c = left_inside _ _ c.if-at-t.true

pub returns-else-at-t : goal.returns-else-at-t
returns-else-at-t c = rw (lt-leb _ _ c.if-at-t.false) (not_inside _ _ c.if-at-t.false)
