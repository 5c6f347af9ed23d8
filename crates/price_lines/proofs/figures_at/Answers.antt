use Rattle.std.proofs.Common.{arith, sym, ◌∙◌}
use Rattle.laws.specs.TruthLaws.{clash, both_true}
use Rattle.lines.specs.declared.Asked.TheVariants.{Number}
use Rattle.price_lines.specs.SameLaws.{right_inside}
use Rattle.price_lines.specs.TestLaws.{with_figures_lem, without_figures}
use Rattle.price_lines.proofs.figures_at.Goals as goal

pub returns-then-not-is_mark : goal.returns-then-not-is_mark
returns-then-not-is_mark c = without_figures _ _ (λ s. clash s.marked (sym c.is_mark.ensures ∙ c.if-not-is_mark.true))

pub returns-then-t-at-ne9 : goal.returns-then-t-at-ne9
returns-then-t-at-ne9 c = without_figures _ _ (λ s. c.if-t-at-ne9.true s.tab_16)

pub returns-then-not-strike_fits : goal.returns-then-not-strike_fits
returns-then-not-strike_fits c =
    without_figures _ _ (λ s. clash s.strike_right (rw c.number_at-strike.ensures at (sym c.strike_fits.ensures ∙ c.if-not-strike_fits.true)))

pub bounds-t-strike : goal.bounds-t-strike
bounds-t-strike c = right_inside Number _ _ c.number_at-strike.ensures (both_true _ _ (sym c.strike_fits.ensures ∙ c.if-not-strike_fits.false)).0

pub returns-then-t-strike-ne9 : goal.returns-then-t-strike-ne9
returns-then-t-strike-ne9 c = without_figures _ _ (λ s. c.if-t-strike-ne9.true (rw c.number_at-strike.ensures s.strike_tab))

pub overflow_add-strike : goal.overflow_add-strike
overflow_add-strike c = let h = right_inside Number _ _ c.number_at-strike.ensures (both_true _ _ (sym c.strike_fits.ensures ∙ c.if-not-strike_fits.false)).0 in omega (arith, h)

pub returns-then-not-price_fits : goal.returns-then-not-price_fits
returns-then-not-price_fits c =
    without_figures _ _ (λ s. clash s.price_right (rw (c.number_at-price.ensures, c.number_at-strike.ensures) at (sym c.price_fits.ensures ∙ c.if-not-price_fits.true)))

pub bounds-t-price : goal.bounds-t-price
bounds-t-price c = right_inside Number _ _ c.number_at-price.ensures (both_true _ _ (sym c.price_fits.ensures ∙ c.if-not-price_fits.false)).0

pub returns-then-t-price-ne10 : goal.returns-then-t-price-ne10
returns-then-t-price-ne10 c =
    without_figures _ _ (λ s. c.if-t-price-ne10.true (rw (c.number_at-price.ensures, c.number_at-strike.ensures) s.ends))

pub returns : goal.returns
returns c =
    rw c.from.ensures
    (with_figures_lem _ _ c.number_at-strike.ensures c.number_at-price.ensures (sym c.is_mark.ensures ∙ c.if-not-is_mark.false) c.if-t-at-ne9.false
    (sym c.strike_fits.ensures ∙ c.if-not-strike_fits.false) c.if-t-strike-ne9.false
    (sym c.price_fits.ensures ∙ c.if-not-price_fits.false) c.if-t-price-ne10.false)
