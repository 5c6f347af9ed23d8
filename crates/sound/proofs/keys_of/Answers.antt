use Rattle.std.proofs.Common.{ap, arith, not}
use Rattle.sound.specs.KeyedLaws.{no_keys, testing_starts, last_good, testing_bad, testing_turned, testing_next, testing_ends}
use Rattle.sound.proofs.keys_of.Goals as goal

pub loop-i-init : goal.loop-i-init
loop-i-init c = testing_starts _ _ c.requires

pub good_row-requires : goal.good_row-requires
good_row-requires c = last_good c.loop-i.invariant c.saturating_sub-b.ensures

pub returns-then-not-good_row : goal.returns-then-not-good_row
returns-then-not-good_row c = no_keys (testing_bad c.loop-i.invariant c.loop-i-test.true (omega arith) c.good_row.ensures (ap not c.if-not-good_row.true))

pub returns-then-not-key_rises : goal.returns-then-not-key_rises
returns-then-not-key_rises c = no_keys (testing_turned c.loop-i.invariant c.loop-i-test.true (omega arith) c.good_row.ensures (ap not c.if-not-good_row.false) c.saturating_sub-b.ensures c.halves_of-k.ensures c.key_rises.ensures (ap not c.if-not-key_rises.true))

pub loop-i-preserved : goal.loop-i-preserved
loop-i-preserved c = testing_next c.loop-i.invariant c.loop-i-test.true (omega arith) c.good_row.ensures (ap not c.if-not-good_row.false) c.saturating_sub-b.ensures c.halves_of-k.ensures c.key_rises.ensures (ap not c.if-not-key_rises.false)

pub returns : goal.returns
returns c = testing_ends c.loop-i.invariant (omega arith) c.loop-i-test.false
