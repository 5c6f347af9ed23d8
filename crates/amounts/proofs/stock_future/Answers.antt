use Rattle.std.proofs.Common.{sym}
use Rattle.amounts.specs.LineLaws.{stock_is}
use Rattle.amounts.proofs.stock_future.Goals as goal

pub future_margin-requires : goal.future_margin-requires
future_margin-requires c = (stock_is _ (sym c.if-stock_fits.ensures), c.if-price-le100000000.true)
