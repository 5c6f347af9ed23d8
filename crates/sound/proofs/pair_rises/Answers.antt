use Rattle.std.specs.Ordering.{nat_cmp}
use Rattle.std.proofs.Common.{ne_eqb, ◌∙◌}
use Rattle.laws.specs.Order.{order_of, bytes_order}
use Rattle.sound.specs.StepLaws.{five_before}
use Rattle.sound.proofs.pair_rises.Goals as goal

pub returns-else-i-eq0 : goal.returns-else-i-eq0
unfolding order_of bytes_order
returns-else-i-eq0 c = rw (ne_eqb _ _ c.if-i-eq0.false) (c.lt.ensures ∙ five_before (nat_cmp c.args.p.kind c.args.q.kind) (nat_cmp c.args.x.0 c.args.y.0) (nat_cmp c.args.x.1 c.args.y.1) (nat_cmp c.args.p.r1 c.args.q.r1) (nat_cmp c.args.p.r2 c.args.q.r2))
