use Rattle.printed.specs.PlacedLaws.{digit_placed, two_wide}
use Rattle.printed.proofs.put_small.Goals as goal

pub returns-then-n-lt10 : goal.returns-then-n-lt10
returns-then-n-lt10 c = digit_placed _ c.if-n-lt10.true c.put_byte.ensures

pub returns : goal.returns
returns c = two_wide _ c.if-n-lt10.false c.requires.1 c.put_two.ensures
