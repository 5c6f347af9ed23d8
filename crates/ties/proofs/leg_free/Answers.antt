use Rattle.std.proofs.Common.{arith, mul-le-mul}
use Rattle.ties.proofs.leg_free.Goals as goal

pub overflow_mul-result : goal.overflow_mul-result
overflow_mul-result c = omega (arith, mul-le-mul {n₁ = c.args.r} {m₁ = c.args.units} {n₂ = 4294967295} {m₂ = 4294967295} (omega arith) (omega arith))

pub returns : goal.returns
returns c = rw c.lots_on.ensures
