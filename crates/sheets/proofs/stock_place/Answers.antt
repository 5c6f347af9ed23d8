use Rattle.std.proofs.Common.{arith, sym, ◌∙◌}
use Rattle.sheets.specs.Sheet.{stock_place}
use Rattle.sheets.specs.TableLaws.{two_capitals_lem}
use Rattle.sheets.proofs.stock_place.Goals as goal

pub returns-then-not-two_capitals : goal.returns-then-not-two_capitals
unfolding stock_place
returns-then-not-two_capitals c = rw (sym c.two_capitals.ensures ∙ c.if-not-two_capitals.true)

pub overflow_sub-result : goal.overflow_sub-result
overflow_sub-result c = let k = two_capitals_lem _ (sym c.two_capitals.ensures ∙ c.if-not-two_capitals.false) in omega arith

pub overflow_cast-result : goal.overflow_cast-result
overflow_cast-result c = let k = two_capitals_lem _ (sym c.two_capitals.ensures ∙ c.if-not-two_capitals.false) in omega arith

pub overflow_mul-result : goal.overflow_mul-result
overflow_mul-result c = let k = two_capitals_lem _ (sym c.two_capitals.ensures ∙ c.if-not-two_capitals.false) in omega arith

pub overflow_sub-result-2 : goal.overflow_sub-result-2
overflow_sub-result-2 c = let k = two_capitals_lem _ (sym c.two_capitals.ensures ∙ c.if-not-two_capitals.false) in omega arith

pub overflow_cast-result-2 : goal.overflow_cast-result-2
overflow_cast-result-2 c = let k = two_capitals_lem _ (sym c.two_capitals.ensures ∙ c.if-not-two_capitals.false) in omega arith

pub overflow_add-result : goal.overflow_add-result
overflow_add-result c = let k = two_capitals_lem _ (sym c.two_capitals.ensures ∙ c.if-not-two_capitals.false) in omega arith

pub returns : goal.returns
unfolding stock_place
returns c = rw (sym c.two_capitals.ensures ∙ c.if-not-two_capitals.false)
