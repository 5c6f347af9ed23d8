use Rattle.std.proofs.Common.{arith}
use Rattle.laws.specs.Order.{order_of}
use Rattle.series.specs.KeyLaws.{by_halves}
use Rattle.series.proofs.compare.Goals as goal

pub returns : goal.returns
unfolding order_of
returns c = by_halves _ _ (omega arith) (omega arith) (simp (c.then.ensures, c.cmp-low.ensures, c.low_key-2.ensures.0, c.low_key.ensures.0, c.cmp-high.ensures, c.high_key-2.ensures, c.high_key.ensures))
