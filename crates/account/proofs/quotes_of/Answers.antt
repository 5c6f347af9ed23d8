use Rattle.std.proofs.Common.{arith, refl, ◌≡◌}
use Rattle.sheets.specs.Rows.{no_stock}
use Rattle.account.specs.QuotedLaws.{quotes_start, quotes_on, row_quoted}
use Rattle.account.proofs.Typed.{stocks_long}
use Rattle.account.proofs.quotes_of.Goals as goal

pub loop-i-init : goal.loop-i-init
loop-i-init c = quotes_start _ _ _ refl

pub offset_bounds-sheet-nearest_place : goal.offset_bounds-sheet-nearest_place
offset_bounds-sheet-nearest_place c = omega (arith, c.nearest_place.ensures)

pub bounds-sheet-nearest_place : goal.bounds-sheet-nearest_place
bounds-sheet-nearest_place c = omega (arith, c.nearest_place.ensures)

pub offset_bounds-quotes-i : goal.offset_bounds-quotes-i
offset_bounds-quotes-i c = omega (arith, c.requires.0, c.loop-i-test.true)

pub bounds-quotes-i : goal.bounds-quotes-i
bounds-quotes-i c = omega (arith, c.requires.0, c.loop-i-test.true, c.loop-i.invariant.long)

pub loop-i-preserved : goal.loop-i-preserved
unfolding no_stock
loop-i-preserved c =
    let long = stocks_long c.args.sheet c.well_formed.1.1.0 in
    quotes_on c.loop-i.invariant (omega (arith, c.requires.0, c.loop-i-test.true))
    (row_quoted c.args.sheet _ long c.product_of-product.ensures c.clearing_of-clearing.ensures c.index_of-index.ensures c.stock_place-at.ensures c.nearest_place.ensures c.stock_at-stock.ensures (c.requires.1.prices_are c.loop-i.i c.loop-i-test.true) c.quote_for.ensures)

pub returns : goal.returns
returns c =
    let i : c.loop-i.i ≡ c.args.held = omega arith in
    rw i at c.loop-i.invariant
