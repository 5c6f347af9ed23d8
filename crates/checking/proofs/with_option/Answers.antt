use Rattle.std.proofs.Common.{arith, sym}
use lib.Seq.{set_out}
use Rattle.checking.proofs.with_option.Goals as goal

pub returns-then-place-lt4 : goal.returns-then-place-lt4
returns-then-place-lt4 c = rw c.option_place-place.ensures

pub returns-else-place-lt4 : goal.returns-else-place-lt4
returns-else-place-lt4 c = sym (rw (← c.option_place-place.ensures) (set_out _ _ _ (omega arith)))
