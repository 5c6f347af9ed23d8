use Rattle.std.proofs.Common.{arith, refl, ap, set, ◌+◌, ◌∙◌}
use Rattle.lists.specs.Places.{insert_at}
use Rattle.lists.specs.PlaceLaws.{slide, carried_out}
use Rattle.places.proofs.insert.Goals as goal

pub loop-i-init : goal.loop-i-init
loop-i-init g c = refl

pub loop-i-preserved : goal.loop-i-preserved
loop-i-preserved g c =
    let s = c.loop-i in
    ap (λ x. insert_at (s.i + 1) x (set s.rows s.i s.carry)) c.index-rows-i.is ∙ slide _ _ _ _ (omega arith) ∙ s.invariant

pub returns : goal.returns
returns g c = carried_out _ _ _ _ _ c.loop-i.invariant c.loop-i.auto.rows c.loop-i-test.false
