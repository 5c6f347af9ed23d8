use Rattle.std.proofs.Common.{ap, arith, not, refl}
use Rattle.sound.specs.LegLaws.{no_places, legs_gone, placing_starts, placing_bad, placing_turned, placing_next, placing_ends}
use Rattle.sound.proofs.places_of.Goals as goal

pub loop-i-init : goal.loop-i-init
loop-i-init c = placing_starts _ _ _ _ _ c.requires

pub returns-in_default : goal.returns-in_default
returns-in_default c = no_places (placing_bad c.loop-i.invariant c.loop-i-test.true (omega arith) c.legs_of.ensures (legs_gone c.legs_of.result c.in_default.not-Some))

pub returns-then-not-pair_rises : goal.returns-then-not-pair_rises
returns-then-not-pair_rises c =
    no_places (placing_turned c.loop-i.invariant c.loop-i-test.true (omega arith) (rw c.in-Some.is at c.legs_of.ensures) refl c.saturating_sub-b.ensures c.pair_rises.ensures (ap not c.if-not-pair_rises.true))

pub loop-i-preserved : goal.loop-i-preserved
loop-i-preserved c =
    placing_next c.loop-i.invariant c.loop-i-test.true (omega arith) (rw c.in-Some.is at c.legs_of.ensures) refl c.saturating_sub-b.ensures c.pair_rises.ensures (ap not c.if-not-pair_rises.false)

pub returns : goal.returns
returns c = placing_ends c.loop-i.invariant (omega arith) c.loop-i-test.false
