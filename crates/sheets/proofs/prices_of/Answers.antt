use Rattle.std.proofs.Common.{◌≡◌, refl, ◌∙◌, ap, take, length, min, arith, [], ◌∷◌}
use Rattle.series.specs.declared.Halves.{Halves}
use Rattle.sheets.specs.Sheet.{price_among, filled}
use Rattle.sheets.specs.SeekLaws.{filled_next, as_many}
use Rattle.sheets.proofs.prices_of.Goals as goal

pub loop-i-init : goal.loop-i-init
unfolding filled
loop-i-init c = refl

pub loop-i-preserved : goal.loop-i-preserved
loop-i-preserved c =
    filled_next _ c.loop-i.i _ c.loop-i.invariant
    (c.price_of.ensures ∙ ap (λ (k : Halves). price_among (take c.min.result c.args.rows) (k.high ∷ k.low ∷ [])) c.key_at.ensures)

pub returns : goal.returns
returns c =
    let long : length c.args.rows ≡ 1024 = omega arith in
    let all : c.loop-i.i ≡ min c.args.held 128 = omega (arith, c.min-i-end.ensures) in
    c.loop-i.invariant ∙ as_many _ _ _ _ _ long c.min.ensures all
