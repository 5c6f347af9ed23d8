use Rattle.std.proofs.Common.{arith, refl, ap, set, ◌-◌, ◌∙◌, ◌++◌, ◌∷◌, [], length, take}
use Rattle.lists.specs.Places.{insert_at, remove_at}
use Rattle.lists.specs.PlaceLaws.{slide_back, insert_end, carried_back}
use Rattle.places.proofs.remove.Goals as goal

pub loop-i-init : goal.loop-i-init
loop-i-init g c = (omega arith, insert_end _ _ _ refl)

pub loop-i-preserved : goal.loop-i-preserved
loop-i-preserved g c =
    let s = c.loop-i in
    (omega arith, ap (λ x. insert_at (s.i - 1) x (set s.rows (s.i - 1) s.carry)) c.index-rows-i.is ∙ slide_back _ _ _ _ (omega arith) (omega arith) ∙ s.invariant.1)

pub returns : goal.returns
returns g c =
    let rows = c.args.rows.now in
    carried_back _ _ _ _ _ _ c.loop-i.invariant.1 c.loop-i.auto.rows (omega arith)
    ∙ ap (λ x. take (length rows) (remove_at c.args.at (rows ++ x ∷ []))) c.empty-carry.ensures
