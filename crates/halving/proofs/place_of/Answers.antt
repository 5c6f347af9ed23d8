use Rattle.std.proofs.Common.{◌∙◌, arith}
use Rattle.halving.specs.HalvingLaws.{half_starts, pair_before, half_up_lem, half_down, half_ends}
use Rattle.halving.proofs.place_of.Goals as goal

pub loop-from-init : goal.loop-from-init
loop-from-init c = half_starts _ _ _ _ (omega (arith, c.min-to.ensures, c.min.ensures))

pub loop-from-preserved-then-lt : goal.loop-from-preserved-then-lt
loop-from-preserved-then-lt c = half_up_lem c.loop-from.invariant c.loop-from-test.true (c.lt.ensures ∙ pair_before _ _ _ _) c.if-lt.true

pub loop-from-preserved : goal.loop-from-preserved
loop-from-preserved c = half_down c.loop-from.invariant c.loop-from-test.true (c.lt.ensures ∙ pair_before _ _ _ _) c.if-lt.false

pub returns : goal.returns
returns c = half_ends c.loop-from.invariant c.loop-from-test.false
