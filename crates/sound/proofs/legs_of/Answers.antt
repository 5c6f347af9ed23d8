use Rattle.std.proofs.Common.{ap, not, sym}
use borrow.Author.Tests.{lt-ltb, le-ltb}
use Rattle.laws.specs.TruthLaws.{both_hold}
use Rattle.sound.specs.LegLaws.{not_standing, both_sought, first_lost}
use Rattle.sound.proofs.legs_of.Goals as goal
use Rattle.sound.proofs.legs_of.Goals.{then-held-first-via-then-held-first, then-held-first-via-else-held-first+then-held-second}

pub returns-then-not-stands : goal.returns-then-not-stands
returns-then-not-stands c = not_standing _ _ _ _ c.stands.ensures (ap not c.if-not-stands.true)

pub returns-then-held-first : goal.returns-then-held-first
returns-then-held-first c =
    first_lost _ c.stands.ensures (ap not c.if-not-stands.false) c.row_of-first.ensures c.row_of-second.ensures
    (elim c.then-held-first.branch [
      | then-held-first-via-then-held-first w ↦ rw (le-ltb _ _ w.if-held-first.true)
      | then-held-first-via-else-held-first+then-held-second w ↦ rw (lt-ltb _ _ w.if-held-first.false, le-ltb _ _ w.if-held-second.true)
    ])

pub returns : goal.returns
returns c =
    both_sought _ c.stands.ensures (ap not c.if-not-stands.false) c.row_of-first.ensures c.row_of-second.ensures
    (sym (both_hold (lt-ltb _ _ c.if-held-first.false) (lt-ltb _ _ c.if-held-second.false)))
