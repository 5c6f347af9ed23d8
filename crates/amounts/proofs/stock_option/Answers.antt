use Rattle.std.proofs.Common.{sym}
use Rattle.amounts.specs.LineLaws.{stock_is, option_is}
use Rattle.amounts.proofs.stock_option.Goals as goal

pub stock_margin-requires : goal.stock_margin-requires
stock_margin-requires c = (stock_is _ (sym c.if-stock_fits.ensures), option_is _ _ (sym c.if-option_fits.ensures))
