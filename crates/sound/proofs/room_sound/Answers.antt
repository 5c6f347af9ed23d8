use Rattle.std.proofs.Common.{arith, le-leb, sym, ◌∙◌}
use borrow.Author.Tests.{lt-leb}
use Rattle.sound.proofs.room_sound.Goals as goal

pub returns-then-held-gt128 : goal.returns-then-held-gt128
returns-then-held-gt128 c = record { is = rw (lt-leb _ _ c.if-held-gt128.true); holdings_long = omega arith; pairs_long = omega arith }

pub returns-then-paired-gt128 : goal.returns-then-paired-gt128
returns-then-paired-gt128 c = record { is = rw (le-leb _ _ c.if-held-gt128.false, lt-leb _ _ c.if-paired-gt128.true); holdings_long = omega arith; pairs_long = omega arith }

pub returns-then-not-holdings_end : goal.returns-then-not-holdings_end
returns-then-not-holdings_end c = record { is = rw (le-leb _ _ c.if-held-gt128.false, le-leb _ _ c.if-paired-gt128.false, sym c.holdings_end.ensures ∙ c.if-not-holdings_end.true); holdings_long = omega arith; pairs_long = omega arith }

pub returns : goal.returns
returns c = record { is = rw (le-leb _ _ c.if-held-gt128.false, le-leb _ _ c.if-paired-gt128.false, sym c.holdings_end.ensures ∙ c.if-not-holdings_end.false) c.pairs_end.ensures; holdings_long = omega arith; pairs_long = omega arith }
