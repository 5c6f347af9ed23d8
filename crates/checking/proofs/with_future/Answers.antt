use Rattle.std.proofs.Common.{arith, sym}
use lib.Seq.{set_out}
use Rattle.checking.proofs.with_future.Goals as goal

pub returns-then-place-lt8 : goal.returns-then-place-lt8
returns-then-place-lt8 c = rw c.future_place-place.ensures

pub returns-else-place-lt8 : goal.returns-else-place-lt8
returns-else-place-lt8 c = sym (rw (← c.future_place-place.ensures) (set_out _ _ _ (omega arith)))
