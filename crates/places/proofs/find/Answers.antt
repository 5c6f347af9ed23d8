use Rattle.std.proofs.Common.{sym, ◌∙◌}
use Rattle.lists.specs.SlotLaws.{slot_start, walk_less, walk_same, walk_more, walk_end}
use Rattle.places.proofs.find.Goals as goal

pub loop-i-init : goal.loop-i-init
loop-i-init g c = slot_start _ _ _ _

pub returns-in-Equal : goal.returns-in-Equal
returns-in-Equal g c =
    sym (c.loop-i.invariant ∙ walk_same _ _ _ _ _ _ _ _ c.live_rows-lives.ensures c.loop-i-test.true c.index-lives-i.is c.compare.ensures c.in-Equal.is)

pub returns-in-Greater : goal.returns-in-Greater
returns-in-Greater g c =
    sym (c.loop-i.invariant ∙ walk_more _ _ _ _ _ _ _ _ c.live_rows-lives.ensures c.loop-i-test.true c.index-lives-i.is c.compare.ensures c.in-Greater.is)

pub loop-i-preserved : goal.loop-i-preserved
loop-i-preserved g c =
    c.loop-i.invariant ∙ walk_less _ _ _ _ _ _ _ _ c.live_rows-lives.ensures c.loop-i-test.true c.index-lives-i.is c.compare.ensures c.in-Less.is

pub returns : goal.returns
returns g c = sym (c.loop-i.invariant ∙ walk_end _ _ _ _ _ _ c.live_rows-lives.ensures c.loop-i-test.false c.loop-i.auto.i-end)
